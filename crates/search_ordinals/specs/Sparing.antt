-- States that a search may leave out, where a step is told by how many enabled labels come before its own.
use Rattle.std.specs.Prelude.{◌≡◌, ℕ, ◌<◌, Contains, Option, None, Some}
use Rattle.search_ordinals.specs.Told.{IsNth}
use Rattle.summary.specs.Graph.{Graph}

module _ {C L : Type 0} (g : Graph C L) (before : C) (nth : ℕ) where
  -- two steps lead from the state before to this state, of which the first one comes before the step of this number
  pub record IsEarly (state : C) : Type 0 where
    pub first : L
    pub second : L
    pub number : ℕ
    pub at : IsNth (g.enabled before) number first
    pub earlier : number < nth
    pub behind : Contains (g.enabled (g.after before first)) second
    pub leads : g.after (g.after before first) second ≡ state

-- the branch of a label, and the state to which it leads; without one that is early
abbrev pub IsSparedAt : {C L B : Type 0} → (C → L → Option B) → Graph C L → C → ℕ → C → L → Option B × Option C → Type 0
IsSparedAt branch g before nth state label (taken, Some after) = (taken ≡ branch state label) × (after ≡ g.after state label)
IsSparedAt branch g before nth state label (taken, None) = (taken ≡ branch state label) × IsEarly g before nth (g.after state label)
