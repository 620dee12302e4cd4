-- What a component asks for refers only to components of which something holds.
use Rattle.std.specs.Prelude.{◌≡◌, ◌⊎◌, IfSome}
use Rattle.laws_references.specs.References.{ComponentRefersTo, DataReferTo, FrameRefersTo, RefersTo}
use Rattle.semantics.specs.Statements.{Act, Connects, Continues, Creates, Errs, Maps, Removes, Requests, Sends, Starts, Stops, Unmaps, Waits, Worsens}
use Rattle.value_types.specs.declared.path.Path.{Path}
use Rattle.value_types.specs.declared.value.ComponentId.{ComponentId}

-- a path is that of a component of which something holds
abbrev pub IsPathOf : (ComponentId → Type 0) → Path → Type 0
IsPathOf P path = (id : ComponentId) × P id × (id.path ≡ path)

-- something holds of a component, or the component is the new one
abbrev pub HoldsOrIs : (ComponentId → Type 0) → ComponentId → ComponentId → Type 0
HoldsOrIs P new id = P id ⊎ (id ≡ new)

-- what is asked for refers only to components of which something holds, and all paths in it are theirs; a new one that is asked for may be referred to as well
abbrev pub ActRefersTo : (ComponentId → Type 0) → Act → Type 0
ActRefersTo P Waits = Unit {0}
ActRefersTo P (Errs why) = Unit {0}
ActRefersTo P (Requests Continues own) = DataReferTo P own
ActRefersTo P (Requests (Worsens v) own) = DataReferTo P own
ActRefersTo P (Requests (Removes port) own) = DataReferTo P own
ActRefersTo P (Requests (Sends port to v) own) = IfSome to (IsPathOf P) × RefersTo P v × DataReferTo P own
ActRefersTo P (Requests (Creates new) own) = ComponentRefersTo (HoldsOrIs P new.itself) new × DataReferTo (HoldsOrIs P new.itself) own
ActRefersTo P (Requests (Starts path frame) own) = IsPathOf P path × FrameRefersTo P frame × DataReferTo P own
ActRefersTo P (Requests (Stops path) own) = IsPathOf P path × DataReferTo P own
ActRefersTo P (Requests (Connects d e) own) = IsPathOf P d.component × IsPathOf P e.component × DataReferTo P own
ActRefersTo P (Requests (Maps d system_port) own) = IsPathOf P d.component × DataReferTo P own
ActRefersTo P (Requests (Unmaps d system_port) own) = IsPathOf P d.component × DataReferTo P own
