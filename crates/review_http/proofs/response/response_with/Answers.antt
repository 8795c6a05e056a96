use Rattle.{std.proofs.Common.refl, review_http.specs.Responses.response_with}
use Rattle.review_http.proofs.response.response_with.Goals as goal

pub returns : goal.returns
unfolding response_with
returns c =
    rw (
      c.in_ok-extend_from_slice-6.ensures.items,
      c.in_ok-extend_from_slice-5.ensures.items,
      c.as_bytes.ensures.value,
      c.in_ok-extend_from_slice-4.ensures.items,
      c.in_ok-put_allow.ensures,
      c.in_ok-extend_from_slice-3.ensures.items,
      c.in_ok-put_number.ensures,
      c.in_ok-extend_from_slice-2.ensures.items,
      c.in_ok-put_status.ensures,
      c.status_of.ensures.status,
      c.in_ok-extend_from_slice.ensures.items,
      c.in_ok-out.ensures.items,
    )
    refl
