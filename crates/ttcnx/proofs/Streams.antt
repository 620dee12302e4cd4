-- What each stage of the work on streams answers.
use Rattle.std.proofs.Common.{◌≡◌, ℕ, Bool, List, refl, sym, ap, subst, inl, inr}
use Rattle.std.specs.Prelude.{◌⊎◌, Ok, Err}
use Rattle.report.specs.declared.report.Report.{Report}
use Rattle.search_layer.specs.Limits.{IsWithinLimits}
use Rattle.search_layer.specs.declared.plan.Plan.{Plan}
use Rattle.ttcnx_streams.proofs.Known.{known_text}
use Rattle.ttcnx_streams.specs.Transfers.{BrokeOff, Device, Stopped, WasRead}
use Rattle.ttcnx_streams.specs.declared.reading.ReadError.{ReadError}
use Rattle.ttcnx_streams.specs.declared.reading.ReadError.TheVariants as reading
use Rattle.ttcnx.specs.Answer.{Answer, IsAnswer}
use Rattle.ttcnx.specs.Named.{source}
use Rattle.ttcnx.specs.Streamed.{Streams, HasOneText, IsStreamed, enough, read_fault, refused, starved, unread}
use Rattle.ttcnx.specs.declared.fault.Fault.{Fault}
use Rattle.ttcnx.specs.declared.fault.Fault.TheVariants as fault
use Rattle.ttcnx.specs.declared.stream.StreamFault.TheVariants as stream

-- a text that was not read
pub read-answers : (script name : List ℕ) (plan : Plan) (json : Bool) (before after : Streams) (error : ReadError) → IsWithinLimits plan
    → (error ≡ reading.Reader → BrokeOff enough before.reader after.reader) → (error ≡ reading.Memory → Stopped enough before.reader after.reader)
    → after.writer ≡ before.writer → IsStreamed script name plan json before after (Err (read_fault error))
read-answers script name plan json before after reading.Reader within failed stopped same = unread within (failed refl) same
read-answers script name plan json before after reading.Memory within failed stopped same = starved within (stopped refl) same

fault-in : Answer → Fault
fault-in (Ok report) = fault.Memory
fault-in (Err why) = why

-- a text that has no report
pub text-answers : {text : List ℕ} (script name : List ℕ) (plan : Plan) (json : Bool) (before after : Streams) (why : Fault) → IsWithinLimits plan
    → WasRead enough before.reader after.reader text → after.writer ≡ before.writer
    → (◌≡◌ {A = Answer} (Err why) (Err fault.Memory)) ⊎ IsAnswer (source text script) name plan (Err why) → IsStreamed script name plan json before after (Err (stream.Refused why))
unfolding fault-in
text-answers script name plan json before after why within read same (inl is) =
    subst (λ x. IsStreamed script name plan json before after (Err (stream.Refused x))) (sym (ap fault-in is)) (starved within (_, read.gave) same)
text-answers script name plan json before after why within read same (inr is) = refused within read is same

pub one_text : (before after : Device) → HasOneText before after
one_text before after = record { first_bytes = λ text read. known_text text read }

-- a report is the answer
pub report-answers : {text script name : List ℕ} {plan : Plan} (report : Report) → (◌≡◌ {A = Answer} (Ok report) (Err fault.Memory)) ⊎ IsAnswer (source text script) name plan (Ok report)
    → IsAnswer (source text script) name plan (Ok report)
report-answers report (inl is) = cc
report-answers report (inr is) = is
