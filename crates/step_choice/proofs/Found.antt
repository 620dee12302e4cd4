-- What a call finds of a choice, part by part.
use Rattle.std.proofs.Common.{◌≡◌, ℕ, List, Option, Some, None, Result, Ok, Err, ap, ◌∙◌}
use Rattle.semantics.specs.Events.{Choice}
use Rattle.semantics.specs.Items.{Item}
use Rattle.step_choice.specs.Choices.{Finds}
use Rattle.step_choice.specs.declared.taken.Taken.{Taken}
use Rattle.step_choice.specs.internal.Later.{or_later}
use Rattle.step_snapshot.specs.declared.snapshot.Snapshot.{Snapshot}
use Rattle.value_types.specs.declared.fault.Fault.{Fault}
use Rattle.value_types.specs.declared.fault.Fault.TheVariants.{Dynamic, Memory}

-- the same choice
pub same-choice : (s : Snapshot) (P : ℕ → List Item → Type 0) (one other : Choice) (result : Result (Option Taken) Fault) → other ≡ one → Finds s P one result → Finds s P other result
same-choice s P one other (Ok None) same found = same ∙ found
same-choice s P one other (Ok (Some taken)) same (chance, (effect, (is, taken_so))) = (chance, (effect, (same ∙ is, taken_so)))
same-choice s P one other (Err Dynamic) same (why, is) = (why, same ∙ is)
same-choice s P one other (Err Memory) same found = tt

-- ways that are such are such
pub other-way : (s : Snapshot) (P Q : ℕ → List Item → Type 0) (choice : Choice) (result : Result (Option Taken) Fault) → ((way : ℕ) (block : List Item) → P way block → Q way block)
    → Finds s P choice result → Finds s Q choice result
other-way s P Q choice (Ok None) so found = found
other-way s P Q choice (Ok (Some taken)) so (chance, (effect, (is, taken_so))) =
    (chance, (effect, (is, record { place = taken_so.place; way = so taken.way chance.way.block taken_so.way; frames = taken_so.frames; within = taken_so.within; deed = taken_so.deed })))
other-way s P Q choice (Err Dynamic) so found = found
other-way s P Q choice (Err Memory) so found = tt

-- a branch that is found before others
pub taken-before : (s : Snapshot) (P : ℕ → List Item → Type 0) (one later : Choice) (taken : Taken) → Finds s P one (Ok (Some taken)) → Finds s P (or_later one later) (Ok (Some taken))
taken-before s P one later taken (chance, (effect, (is, taken_so))) = (chance, (effect, (ap (λ c. or_later c later) is, taken_so)))

-- a fault that is found before others
pub fault-before : (s : Snapshot) (P : ℕ → List Item → Type 0) (one later : Choice) (fault : Fault) → Finds s P one (Err fault) → Finds s P (or_later one later) (Err fault)
fault-before s P one later Dynamic (why, is) = (why, ap (λ c. or_later c later) is)
fault-before s P one later Memory found = tt

-- where nothing is found, others come
pub after-none : (s : Snapshot) (P : ℕ → List Item → Type 0) (one later : Choice) (result : Result (Option Taken) Fault) → Finds s P one (Ok None) → Finds s P later result → Finds s P (or_later one later) result
after-none s P one later result none found = same-choice s P later (or_later one later) result (ap (λ c. or_later c later) none) found
