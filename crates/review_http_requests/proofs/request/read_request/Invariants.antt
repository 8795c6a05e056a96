use Rattle.std.proofs.Common.{◌≡◌, ◌+◌, ◌-◌, ◌<◌, ◌≤◌, length, min, false}
use Rattle.review_http_requests.specs.{Bytes.Gave, Counts.greatest, Shown.inner_of, Shown.reads_of, Shown.faults_of}
use Rattle.review_http_requests.specs.inner.Words.{WaitsFor}
use Rattle.review_http_requests.proofs.request.read_request.Given as goal

-- the bytes so far are those that the reader gave, in so many reads, and with fewer than are wanted no request is whole
abbrev pub invariant-loop-delivery : goal.invariant-loop-delivery
invariant-loop-delivery g l =
    record {
      few : l.reads ≤ 4096;
      gave : Gave (g.R.Read.remaining (inner_of l.fn.reader)) (g.R.Read.remaining (inner_of l.reader)) l.bytes.items l.ended;
      some : l.ended ≡ false → l.reads ≤ length l.bytes.items;
      all : l.reads ≤ length l.bytes.items + 1;
      none : l.reads ≡ 0 → reads_of l.reader ≡ reads_of l.fn.reader;
      reads : 0 < l.reads → reads_of l.reader ≡ min (reads_of l.fn.reader + l.reads) greatest;
      waits : WaitsFor l.wanted l.bytes.items;
      faults : faults_of l.reader ≡ faults_of l.fn.reader;
    }

abbrev pub decreases-loop-delivery : goal.decreases-loop-delivery
decreases-loop-delivery g l = 4096 - l.reads
