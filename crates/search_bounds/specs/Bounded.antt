-- A graph whose runs are those of another that keep a bound.
use Rattle.std.specs.Prelude.{ℕ, zero, suc, ◌-◌, Bool, true, false, ◌&&◌, not, List, Option, None, Some, if◌then◌else◌}
use Rattle.std.specs.List.{filter, list_any}
use Rattle.std.specs.Option.{option_map}
use Rattle.search_bounds.specs.KeptRuns.{is_expiry, is_statement}
use Rattle.search_bounds.specs.declared.bound.Bound.{Bound}
use Rattle.search_bounds.specs.declared.kind.Kind.{Kind}
use Rattle.search_bounds.specs.declared.state.Bounded.{Bounded}
use Rattle.summary.specs.Graph.{Graph}

-- whether some label is of a statement
abbrev pub any_statement : {L : Type 0} → (L → Kind) → List L → Bool
any_statement kind_of labels = list_any (λ label. is_statement (kind_of label)) labels

-- whether one more timer may expire, where so many may, or their number isn't bounded
abbrev pub is_one_left : Option ℕ → Bool
is_one_left None = true
is_one_left (Some zero) = false
is_one_left (Some (suc left)) = true

-- whether a timer may expire: one more may, and patient timers have no statement to wait for
abbrev pub may_expire : Bool → Option ℕ → Bool → Bool
may_expire patient left statement = is_one_left left && not (patient && statement)

-- how many timers may still expire behind a step of this kind
abbrev pub left_after : Kind → Option ℕ → Option ℕ
left_after kind left = if is_expiry kind then option_map (λ number. number - 1) left else left

-- whether a step of this kind may be taken, where it is known whether a timer may expire
abbrev pub may_take : Bool → Kind → Bool
may_take expire kind = if is_expiry kind then expire else true

-- those of the enabled labels that may be taken
abbrev pub allowed : {L : Type 0} → Bool → (L → Kind) → Option ℕ → List L → List L
allowed patient kind_of left labels = filter (λ label. may_take (may_expire patient left (any_statement kind_of labels)) (kind_of label)) labels

-- the graph whose states also say how many timers may still expire, and whose labels are those that may be taken
abbrev pub bounded : {C L : Type 0} → Bound → (L → Kind) → Graph C L → Graph (Bounded C) L
bounded bound kind_of g = record {
  first = record { state = g.first; left = bound.expiries };
  enabled = λ b. allowed bound.patient kind_of b.left (g.enabled b.state);
  after = λ b label. record { state = g.after b.state label; left = left_after (kind_of label) b.left };
  mark = λ b. g.mark b.state;
}
