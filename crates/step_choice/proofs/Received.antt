-- What comes of a message in front of a port.
use Rattle.std.proofs.Common.{◌≡◌, ℕ, Bool, true, false, List, [], ◌∷◌, Option, Some, None, Ok, Err, cond, refl, ap}
use Rattle.std.specs.declared.alloc.Global.{Global}
use Rattle.std.specs.declared.vec.Vec.{Vec}
use Rattle.ttcn_syntax.specs.declared.tree.statement.Receive.{Receive}
use Rattle.ttcn_syntax.specs.declared.tree.template.MessageTemplate.{MessageTemplate}
use Rattle.check_scope.specs.Typings.{same_type}
use Rattle.check_scope.specs.declared.types.DataType.{DataType}
use Rattle.semantics.specs.Configurations.{Message}
use Rattle.semantics.specs.Events as events
use Rattle.semantics.specs.Events.{Happened, Passed, Redirect, Trial, tried, try_type, try_typed}
use Rattle.semantics.specs.Sites.{Site}
use Rattle.semantics.specs.Snapshots.{Test}
use Rattle.step_choice.specs.Deeds as deeds
use Rattle.step_choice.specs.declared.taken.Deed.TheVariants as code
use Rattle.step_choice.specs.declared.taken.Stored.{Stored}
use Rattle.step_choice.specs.internal.Judged.{Stores, Tries, names_of, test_of, type_fits}
use Rattle.step_snapshot.specs.declared.snapshot.Snapshot.{Snapshot}
use Rattle.value_types.specs.Outcomes.{Outcome}
use Rattle.value_types.specs.Readings.{Reading}
use Rattle.value_types.specs.declared.fault.Fault.{Fault}
use Rattle.value_types.specs.declared.fault.Fault.TheVariants.{Dynamic, Memory}

-- ---- what is stored

-- a message is received once what it stores is known
abbrev pub received : List ℕ → Outcome (List Redirect) → Trial
received port stored = tried (λ redirects. Happened (events.Receives port redirects)) stored

pub stored-received : (s : Snapshot) (site : Site) (outcome : Outcome (List Redirect)) (port : ℕ) (stored : Vec Stored Global)
    → Stores (test_of s) site outcome (Ok stored) → Tries s site (received (names_of s port) outcome) (Ok (Some (code.Receives port stored)))
stored-received s site outcome port stored (redirects, (is, same)) =
    (events.Receives (names_of s port) redirects, (ap (received (names_of s port)) is, ap (deeds.Receives (names_of s port)) same))

pub stored-fault : (s : Snapshot) (site : Site) (outcome : Outcome (List Redirect)) (port : List ℕ) (fault : Fault)
    → Stores (test_of s) site outcome (Err fault) → Tries s site (received port outcome) (Err fault)
stored-fault s site outcome port Dynamic (why, is) = (why, ap (received port) is)
stored-fault s site outcome port Memory said = tt

-- ---- types

-- a message of a type that is found, where it is known whether that is one that the receive takes
abbrev pub try_fitting : Test → Site → Reading → Receive → List ℕ → Message → DataType → Bool → Trial
try_fitting test site reading receive port message found true = try_typed test site reading receive port message found
try_fitting test site reading receive port message found false = Passed

either-typed : (test : Test) (site : Site) (reading : Reading) (receive : Receive) (port : List ℕ) (message : Message) (found : DataType) (b : Bool)
    → cond b (try_typed test site reading receive port message found) Passed ≡ try_fitting test site reading receive port message found b
either-typed test site reading receive port message found true = refl
either-typed test site reading receive port message found false = refl

pub type-tried : (test : Test) (site : Site) (reading : Reading) (receive : Receive) (port : List ℕ) (message : Message) (wanted : Option DataType) (found : DataType) (template : Option MessageTemplate)
    → try_type test site reading receive port message wanted (Some found) template ≡ tried (try_fitting test site reading receive port message found) (type_fits wanted found template)
type-tried test site reading receive port message wanted found None = refl
type-tried test site reading receive port message None found (Some template) = refl
type-tried test site reading receive port message (Some wanted) found (Some template) =
    either-typed test site reading receive port message found (same_type wanted found)
