-- The fault that ends a command where a line is not read.
use Rattle.review_json_lines.specs.declared.fault.Fault.{Fault, TheVariants.Memory, TheVariants.Input}
use Rattle.review_json_lines.specs.declared.lines.LineFault.{LineFault}
use Rattle.review_json_lines.specs.declared.lines.LineFault.TheVariants as line

-- why a line is not read, as the fault of the command
abbrev pub fault_of : LineFault → Fault
fault_of line.Input = Input
fault_of line.Endless = Input
fault_of line.Memory = Memory
