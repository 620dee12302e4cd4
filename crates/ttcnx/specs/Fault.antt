-- Refusals and faults: what is printed of them, and the status that they lead to.
use Rattle.std.specs.Prelude.{◌≡◌, ℕ, List, ◌++◌, codes, string_bytes}
use Rattle.std.specs.Fmt.{decimal}
use Rattle.ttcn_syntax.specs.declared.error.LexError.{LexError}
use Rattle.ttcn_syntax.specs.declared.error.LexError.TheVariants as lexical
use Rattle.search_layer.specs.declared.plan.ExploreError.{ExploreError}
use Rattle.search_layer.specs.declared.plan.ExploreError.TheVariants as searching
use Rattle.report.specs.Texts.{place_text}
use Rattle.report.specs.declared.run.RunError.{RunError}
use Rattle.report.specs.declared.run.RunError.TheVariants as listing
use Rattle.ttcn_parse.specs.ParseError.{ParseError}
use Rattle.ttcn_parse.specs.ParseError.TheVariants as reading
use Rattle.ttcn_step.specs.declared.error.CoarsenError.{CoarsenError}
use Rattle.ttcn_step.specs.declared.error.CoarsenError.TheVariants as coarsening
use Rattle.ttcn_step.specs.declared.error.ReplayError.{ReplayError}
use Rattle.ttcn_step.specs.declared.error.ReplayError.TheVariants as replaying
use Rattle.ttcn_types.specs.declared.error.CheckError.{CheckError}
use Rattle.ttcn_types.specs.declared.error.CheckError.TheVariants as typing
use Rattle.check_scope.specs.Numbers.{name_of, number_of}
use Rattle.report_script.specs.declared.error.ScriptError.{ScriptError}
use Rattle.report_script.specs.declared.error.ScriptError.TheVariants as scripting
use Rattle.ttcnx.specs.declared.fault.Refusal.{Refusal}
use Rattle.ttcnx.specs.declared.fault.Refusal.TheVariants.{BadByte, OpenComment, OpenText, IntegerTooLarge, TextTooLong, Unexpected, TooDeep, LeftOut, Broken}
use Rattle.ttcnx.specs.declared.fault.ScriptRefusal.{ScriptRefusal}
use Rattle.ttcnx.specs.declared.fault.ScriptRefusal.TheVariants.{BadJson, BadMessage, NoSuchPort, TooLarge}
use Rattle.ttcnx.specs.declared.fault.Fault.{Fault}
use Rattle.ttcnx.specs.declared.fault.Fault.TheVariants.{Refused, NoSuchTestCase, BadScript, BadLabel, NotEnabled, NotFine, NotEnded, TooMany, BadPlan, Memory, CannotRead, CannotWrite}

-- number and name of a refusal
abbrev pub refusal_text : Refusal → List ℕ
refusal_text BadByte = codes "L1 BadByte"
refusal_text OpenComment = codes "L2 OpenComment"
refusal_text OpenText = codes "L3 OpenText"
refusal_text IntegerTooLarge = codes "L4 IntegerTooLarge"
refusal_text TextTooLong = codes "L5 TextTooLong"
refusal_text Unexpected = codes "P1 Unexpected"
refusal_text TooDeep = codes "P2 TooDeep"
refusal_text LeftOut = codes "P3 LeftOut"
refusal_text (Broken rule) = codes "C" ++ decimal (number_of rule) ++ codes " " ++ name_of rule

-- number and name of a refusal of a script
abbrev pub script_text : ScriptRefusal → List ℕ
script_text BadJson = codes "J1 BadJson"
script_text NoSuchPort = codes "J2 NoSuchPort"
script_text BadMessage = codes "J3 BadMessage"
script_text TooLarge = codes "J4 TooLarge"

-- the line that tells of a fault
abbrev pub fault_text : Fault → List ℕ
fault_text (Refused refusal place) = codes "refused " ++ refusal_text refusal ++ codes " at " ++ place_text place
fault_text NoSuchTestCase = codes "refused U1 NoSuchTestCase"
fault_text (BadScript why) = codes "refused " ++ script_text why
fault_text (BadLabel line) = codes "refused N1 BadLabel at line " ++ decimal line
fault_text (NotEnabled label) = codes "refused N2 NotEnabled at label " ++ decimal label
fault_text (NotFine label) = codes "refused F1 NotFine at label " ++ decimal label
fault_text NotEnded = codes "refused F2 NotEnded"
fault_text TooMany = codes "refused E1 TooMany"
fault_text BadPlan = codes "refused E2 BadPlan"
fault_text Memory = codes "out of memory"
fault_text (CannotRead file) = codes "cannot read " ++ string_bytes file
fault_text CannotWrite = codes "cannot write"

-- the status that the program exits with after a fault
abbrev pub status_of : Fault → ℕ
status_of (Refused refusal place) = 1
status_of NoSuchTestCase = 1
status_of (BadScript why) = 1
status_of (BadLabel line) = 1
status_of (NotEnabled label) = 1
status_of (NotFine label) = 1
status_of NotEnded = 1
status_of BadPlan = 2
status_of TooMany = 3
status_of Memory = 4
status_of (CannotRead file) = 5
status_of CannotWrite = 5

-- faults that tell the same, wherever in a module they stand
abbrev pub SameFault : Fault → Fault → Type 0
SameFault (Refused why place) (Refused other there) = why ≡ other
SameFault (Refused why place) other = ⊥
SameFault one (Refused why place) = ⊥
SameFault one other = one ≡ other

-- the fault of a text that can't be cut into tokens; a text that is too long is at fault as a whole
abbrev pub lexical_fault : LexError → Fault
lexical_fault lexical.TextTooLong = Refused TextTooLong (record { line = 1; column = 1 })
lexical_fault (lexical.BadByte place) = Refused BadByte place
lexical_fault (lexical.OpenComment place) = Refused OpenComment place
lexical_fault (lexical.OpenText place) = Refused OpenText place
lexical_fault (lexical.IntegerTooLarge place) = Refused IntegerTooLarge place
lexical_fault lexical.Memory = Memory

-- the fault of tokens that spell no module
abbrev pub grammar_fault : ParseError → Fault
grammar_fault (reading.TooDeep place) = Refused TooDeep place
grammar_fault (reading.LeftOut place) = Refused LeftOut place
grammar_fault (reading.Unexpected place) = Refused Unexpected place
grammar_fault reading.Memory = Memory

-- the fault of a module that isn't well typed
abbrev pub typing_fault : CheckError → Fault
typing_fault (typing.Broken rule place) = Refused (Broken rule) place
typing_fault (typing.Memory error) = Memory

-- the fault of a script that is refused
abbrev pub script_fault : ScriptError → Fault
script_fault scripting.TooLarge = BadScript TooLarge
script_fault scripting.BadJson = BadScript BadJson
script_fault scripting.NoSuchPort = BadScript NoSuchPort
script_fault scripting.BadMessage = BadScript BadMessage
script_fault scripting.Memory = Memory

-- the fault of a search that gives no answer
abbrev pub explore_fault : ExploreError → Fault
explore_fault searching.BadPlan = BadPlan
explore_fault searching.TooMany = TooMany
explore_fault searching.Memory = Memory

-- the fault of a run file that is no list of labels
abbrev pub listing_fault : RunError → Fault
listing_fault (listing.BadLabel line) = BadLabel line
listing_fault listing.Memory = Memory

-- the fault of labels that are no run
abbrev pub replay_fault : ReplayError → Fault
replay_fault (replaying.NotEnabled label) = NotEnabled label
replay_fault replaying.Memory = Memory

-- the fault of fine labels that stand for no run that ends
abbrev pub coarsen_fault : CoarsenError → Fault
coarsen_fault (coarsening.NotFine label) = NotFine label
coarsen_fault coarsening.NotEnded = NotEnded
coarsen_fault coarsening.Memory = Memory
