-- What happens where a reader gives the text of a module and a writer takes the report, and what is answered for it with a script.
-- Stage by stage: the plan, the text, its answer, the report.
use Rattle.std.specs.Prelude.{◌≡◌, ℕ, ◌+◌, List, take, ⊤, IfSome, Bool, if◌then◌else◌, Option, Result, Ok, Err}
use Rattle.report.specs.Json.{json_text}
use Rattle.report.specs.Texts.{report_text}
use Rattle.report.specs.declared.report.Report.{Report}
use Rattle.search_layer.specs.Limits.{IsWithinLimits}
use Rattle.search_layer.specs.declared.plan.Plan.{Plan}
use Rattle.ttcnx_streams.specs.Transfers.{BrokeOff, Device, Stopped, Took, TookPart, WasRead, device_by}
use Rattle.ttcnx_streams.specs.declared.counted.Counted.{Counted}
use Rattle.ttcnx_streams.specs.declared.reading.ReadError.{ReadError}
use Rattle.ttcnx_streams.specs.declared.reading.ReadError.TheVariants as reading
use Rattle.ttcn_syntax.specs.Limits.{longest_text}
use Rattle.ttcnx.specs.Answer.{IsAnswer}
use Rattle.ttcnx.specs.Named.{source}
use Rattle.ttcnx.specs.declared.fault.Fault.{Fault}
use Rattle.ttcnx.specs.declared.fault.Fault.TheVariants as fault
use Rattle.ttcnx.specs.declared.stream.StreamFault.{StreamFault}
use Rattle.ttcnx.specs.declared.stream.StreamFault.TheVariants as stream

-- so many bytes are read at most: one more than a text may have
abbrev pub enough : ℕ
enough = longest_text + 1

-- the bytes that tell a report, as JSON or as text
abbrev pub told_as : Bool → Report → List ℕ
told_as json report = if json then json_text report else report_text report

-- the fault of a text that was not read
abbrev pub read_fault : ReadError → StreamFault
read_fault reading.Reader = stream.Read
read_fault reading.Memory = stream.Refused fault.Memory

-- a reader and a writer at a moment
pub record Streams : Type 0 where
  pub reader : Device
  pub writer : Device

-- a reader and a writer of code at a moment
abbrev pub streams_by : {R W : Type 0} → (R → Option (List ℕ)) → (W → Option (List ℕ)) → Counted R → Counted W → Streams
streams_by remaining contents reader writer = record { reader = device_by remaining reader; writer = device_by contents writer }

-- where a reader's bytes are known, the first of them are the one text that was read
pub record HasOneText (before after : Device) : Type 0 where
  pub first_bytes : (text : List ℕ) → WasRead enough before after text → IfSome before.bytes (λ bytes. text ≡ take enough bytes)

-- what happens, and what is answered
pub data IsStreamed (script name : List ℕ) (plan : Plan) (json : Bool) (before after : Streams) : Result ⊤ StreamFault → Type 0 where
  -- the plan is beyond its limits: nothing is read
  beyond : (IsWithinLimits plan → ⊥) → after ≡ before → IsStreamed script name plan json before after (Err (stream.Refused fault.BadPlan))
  -- a read fails: nothing is written
  unread : IsWithinLimits plan → BrokeOff enough before.reader after.reader → after.writer ≡ before.writer
      → IsStreamed script name plan json before after (Err stream.Read)
  -- there is no memory: some text was read, and nothing is written
  starved : IsWithinLimits plan → Stopped enough before.reader after.reader → after.writer ≡ before.writer
      → IsStreamed script name plan json before after (Err (stream.Refused fault.Memory))
  -- the text that was read has no report: why; nothing is written
  refused : {text : List ℕ} {why : Fault} → IsWithinLimits plan → WasRead enough before.reader after.reader text → IsAnswer (source text script) name plan (Err why)
      → after.writer ≡ before.writer → IsStreamed script name plan json before after (Err (stream.Refused why))
  -- a write fails: a beginning of the report on the text that was read, perhaps all of it, is written
  cut_short : {text : List ℕ} {report : Report} → IsWithinLimits plan → WasRead enough before.reader after.reader text
      → IsAnswer (source text script) name plan (Ok report) → TookPart before.writer after.writer (told_as json report)
      → IsStreamed script name plan json before after (Err stream.Write)
  -- the report on the text that was read is written
  written : {text : List ℕ} {report : Report} → IsWithinLimits plan → WasRead enough before.reader after.reader text
      → IsAnswer (source text script) name plan (Ok report) → Took before.writer after.writer (told_as json report) → IsStreamed script name plan json before after (Ok tt)
