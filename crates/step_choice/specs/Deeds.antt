-- What taking a branch does beside what it leaves to be done, with what is known of the names in it (ES 201 873-1, 20.2, 22.2 and 23).
use Rattle.std.specs.Prelude.{ℕ, Bool, List, map}
use Rattle.std.specs.List.{All}
use Rattle.semantics.specs.Events as events
use Rattle.semantics.specs.Events.{Effect, Redirect}
use Rattle.semantics.specs.Items.{Target}
use Rattle.semantics.specs.Sites.{Site, is_own}
use Rattle.semantics.specs.Snapshots.{Test}
use Rattle.semantics.specs.Storing.{target_meant}
use Rattle.step_choice.specs.declared.taken.Deed as code_deed
use Rattle.step_choice.specs.declared.taken.Deed.TheVariants as code
use Rattle.step_choice.specs.declared.taken.Stored as code_stored
use Rattle.step_snapshot.specs.Slots.{IsKnown}
use Rattle.config_parts.specs.Legend.{Legend}
use Rattle.graph_items.specs.Standing.{target_of}
use Rattle.value_types.specs.declared.value.Value.{Value}

-- what taking a branch does beside what it leaves to be done, with its redirects as targets
pub data Deed : Type 0 where
  -- nothing more
  Nothing : Deed
  -- the first message of a port is removed, and values go to targets
  Receives : List ℕ → List (Target × Value) → Deed
  -- a timer becomes inactive: whether it is the frame's own
  Elapses : List ℕ → Bool → Deed

-- where a redirect at a site stores its value
abbrev pub stored_of : Test → Site → Redirect → Target × Value
stored_of test site redirect = (target_meant test site redirect.reference, redirect.value)

-- the deed for which the effect of a branch stands, which is judged at a site
abbrev pub deed_of : Test → Site → Effect → Deed
deed_of test site events.Plain = Nothing
deed_of test site (events.Receives port redirects) = Receives port (map (stored_of test site) redirects)
deed_of test site (events.Elapses name) = Elapses name (is_own test.definitions site name)

-- ---- what code keeps of it

-- what the code's form of a target with its value stands for
abbrev pub stored_by : code_stored.Stored → Target × Value
stored_by stored = (target_of stored.target.now, stored.value)

-- what a deed of the code stands for
abbrev pub deed_by : Legend → code_deed.Deed → Deed
deed_by legend code.Nothing = Nothing
deed_by legend (code.Receives port stored) = Receives (legend.names port) (map stored_by stored.items)
deed_by legend (code.Elapses name own) = Elapses name.now own

-- the names that it changes have slots, where these names have
abbrev pub HasKnownNames : List (List ℕ) → code_deed.Deed → Type 0
HasKnownNames names code.Nothing = Unit {0}
HasKnownNames names (code.Receives port stored) = All (λ one. IsKnown names one.target.now.reference.name) stored.items
HasKnownNames names (code.Elapses name own) = IsKnown names name.now
