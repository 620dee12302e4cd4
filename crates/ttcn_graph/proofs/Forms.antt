-- What may come of each form of statement.
use Rattle.std.proofs.Common.{◌≡◌, refl, sym, ap, ◌∙◌, List, [], ◌∷◌, Option}
use Rattle.ttcn_syntax.specs.declared.tree.definition.Definition.{Definition}
use Rattle.ttcn_syntax.specs.declared.tree.expression.Expr.{Expr}
use Rattle.ttcn_syntax.specs.declared.tree.statement.Action.{out-Action, out-roll-Action, roll-Action, roll-out-Action}
use Rattle.ttcn_syntax.specs.declared.tree.statement.Action.TheOpen.{Action-F}
use Rattle.ttcn_syntax.specs.declared.tree.statement.Action.TheVariants as form
use Rattle.ttcn_syntax.specs.declared.tree.statement.Assignment.{Assignment}
use Rattle.ttcn_syntax.specs.declared.tree.statement.Branch.{Branch}
use Rattle.ttcn_syntax.specs.declared.tree.statement.Conditional.{Conditional}
use Rattle.ttcn_syntax.specs.declared.tree.statement.Constants.{Constants}
use Rattle.ttcn_syntax.specs.declared.tree.statement.Event.{Event}
use Rattle.ttcn_syntax.specs.declared.tree.statement.ForStart.{ForStart}
use Rattle.ttcn_syntax.specs.declared.tree.statement.Statement.{Statement, out-Statement}
use Rattle.ttcn_syntax.specs.declared.tree.statement.Timer.{Timer}
use Rattle.ttcn_syntax.specs.declared.tree.statement.Variables.{Variables}
use Rattle.ttcn_syntax.specs.declared.tree.value.Call.{Call}
use Rattle.semantics.specs.Items as rules
use Rattle.semantics.specs.Items.{Doing, Item, action_of, items_of_action, items_of_statement, site_after}
use Rattle.semantics.specs.Sites.{Site, entries_of, scope_at, site_behind}
use Rattle.ttcn_graph.specs.Ways.{ways_of, ways_of_part}
use Rattle.ttcn_graph.specs.internal.Drawing.{Does}

-- ---- what a statement does

pub does-Variables : (s : Statement) (vs : Variables) → Does s (form.Variables vs) → action_of s ≡ Action-F.Variables vs
does-Variables s vs is = ap out-Action (is ∙ sym (form.rolls-Variables vs)) ∙ out-roll-Action (Action-F.Variables vs)

pub does-Constants : (s : Statement) (cs : Constants) → Does s (form.Constants cs) → action_of s ≡ Action-F.Constants cs
does-Constants s cs is = ap out-Action (is ∙ sym (form.rolls-Constants cs)) ∙ out-roll-Action (Action-F.Constants cs)

pub does-Timers : (s : Statement) (timers : List Timer) → Does s (form.Timers timers) → action_of s ≡ Action-F.Timers timers
does-Timers s timers is = ap out-Action (is ∙ sym (form.rolls-Timers timers)) ∙ out-roll-Action (Action-F.Timers timers)

pub does-Assign : (s : Statement) (a : Assignment) → Does s (form.Assign a) → action_of s ≡ Action-F.Assign a
does-Assign s a is = ap out-Action (is ∙ sym (form.rolls-Assign a)) ∙ out-roll-Action (Action-F.Assign a)

pub does-Call : (s : Statement) (call : Call) → Does s (form.Call call) → action_of s ≡ Action-F.«Action::Call» call
does-Call s call is = ap out-Action (is ∙ sym (form.rolls-Call call)) ∙ out-roll-Action (Action-F.«Action::Call» call)

pub does-Event : (s : Statement) (event : Event) → Does s (form.Event event) → action_of s ≡ Action-F.«Action::Event» event
does-Event s event is = ap out-Action (is ∙ sym (form.rolls-Event event)) ∙ out-roll-Action (Action-F.«Action::Event» event)

pub does-Alt : (s : Statement) (branches : List Branch) → Does s (form.Alt branches) → action_of s ≡ Action-F.Alt branches
does-Alt s branches is = ap out-Action (is ∙ sym (form.rolls-Alt branches)) ∙ out-roll-Action (Action-F.Alt branches)

pub does-If : (s : Statement) (conditionals : List Conditional) (last : Option (List Statement)) → Does s (form.If conditionals last) → action_of s ≡ Action-F.If conditionals last
does-If s conditionals last is = ap out-Action (is ∙ sym (form.rolls-If conditionals last)) ∙ out-roll-Action (Action-F.If conditionals last)

pub does-While : (s : Statement) (condition : Expr) (body : List Statement) → Does s (form.While condition body) → action_of s ≡ Action-F.While condition body
does-While s condition body is = ap out-Action (is ∙ sym (form.rolls-While condition body)) ∙ out-roll-Action (Action-F.While condition body)

pub does-DoWhile : (s : Statement) (body : List Statement) (condition : Expr) → Does s (form.DoWhile body condition) → action_of s ≡ Action-F.DoWhile body condition
does-DoWhile s body condition is = ap out-Action (is ∙ sym (form.rolls-DoWhile body condition)) ∙ out-roll-Action (Action-F.DoWhile body condition)

pub does-For : (s : Statement) (start : ForStart) (condition : Expr) (step : Assignment) (body : List Statement) → Does s (form.For start condition step body)
    → action_of s ≡ Action-F.For start condition step body
does-For s start condition step body is = ap out-Action (is ∙ sym (form.rolls-For start condition step body)) ∙ out-roll-Action (Action-F.For start condition step body)

-- what may come of a part, where it is known what the statement does
pub part-is : (definitions : List Definition) (site : Site) (s : Statement) (rest : List Item) (part : rules.Part) (does : rules.Does) → action_of s ≡ does
    → ways_of definitions (Doing site s part ∷ rest) ≡ ways_of_part definitions site s rest part does
part-is definitions site s rest part does is = ap (ways_of_part definitions site s rest part) is

-- ---- declarations

-- the site behind a statement, and the statement as what remains
pub after-is : (definitions : List Definition) (site : Site) (s : Statement) (does : rules.Does) → action_of s ≡ does
    → site_after definitions site s ≡ site_behind site (entries_of (scope_at definitions site) does)
after-is definitions site s does is = ap (λ does. site_behind site (entries_of (scope_at definitions site) does)) is

pub items-are : (definitions : List Definition) (site : Site) (s : Statement) (does : rules.Does) → action_of s ≡ does → items_of_statement definitions site s ≡ items_of_action definitions site s does
items-are definitions site s does is = ap (items_of_action definitions site s) is

-- ---- all other statements

-- a form from what is in it
back : (s : Statement) (does : rules.Does) → action_of s ≡ does → (out-Statement s).action ≡ roll-Action does
back s does is = sym (roll-out-Action (out-Statement s).action) ∙ ap roll-Action is

-- a statement that declares nothing is one item, and nothing is declared behind it
pub record IsOneItem (definitions : List Definition) (site : Site) (s : Statement) : Type 0 where
  pub items_are : items_of_statement definitions site s ≡ Doing site s rules.Whole ∷ []
  pub after_is : site_after definitions site s ≡ site

one-item : (definitions : List Definition) (site : Site) (s : Statement) (does : rules.Does) → action_of s ≡ does → items_of_action definitions site s does ≡ Doing site s rules.Whole ∷ []
    → site_behind site (entries_of (scope_at definitions site) does) ≡ site → IsOneItem definitions site s
one-item definitions site s does is items_is site_is = record {
  items_are = items-are definitions site s does is ∙ items_is;
  after_is = after-is definitions site s does is ∙ site_is;
}

module _ (definitions : List Definition) (s : Statement)
    (not-Variables : (vs : Variables) → Does s (form.Variables vs) → ⊥)
    (not-Constants : (cs : Constants) → Does s (form.Constants cs) → ⊥)
    (not-Timers : (timers : List Timer) → Does s (form.Timers timers) → ⊥) where
  one-of : (site : Site) (does : rules.Does) → action_of s ≡ does → IsOneItem definitions site s
  one-of site (Action-F.Variables vs) is = absurd (not-Variables vs (back s (Action-F.Variables vs) is ∙ form.rolls-Variables vs))
  one-of site (Action-F.Constants cs) is = absurd (not-Constants cs (back s (Action-F.Constants cs) is ∙ form.rolls-Constants cs))
  one-of site (Action-F.Timers timers) is = absurd (not-Timers timers (back s (Action-F.Timers timers) is ∙ form.rolls-Timers timers))
  one-of site (Action-F.Assign a) is = one-item definitions site s (Action-F.Assign a) is refl refl
  one-of site (Action-F.«Action::Call» call) is = one-item definitions site s (Action-F.«Action::Call» call) is refl refl
  one-of site (Action-F.«Action::Event» event) is = one-item definitions site s (Action-F.«Action::Event» event) is refl refl
  one-of site (Action-F.Alt branches) is = one-item definitions site s (Action-F.Alt branches) is refl refl
  one-of site Action-F.Repeat is = one-item definitions site s Action-F.Repeat is refl refl
  one-of site (Action-F.If conditionals last) is = one-item definitions site s (Action-F.If conditionals last) is refl refl
  one-of site (Action-F.While condition body) is = one-item definitions site s (Action-F.While condition body) is refl refl
  one-of site (Action-F.DoWhile body condition) is = one-item definitions site s (Action-F.DoWhile body condition) is refl refl
  one-of site (Action-F.For start condition step body) is = one-item definitions site s (Action-F.For start condition step body) is refl refl
  one-of site (Action-F.Return v) is = one-item definitions site s (Action-F.Return v) is refl refl
  one-of site Action-F.Stop is = one-item definitions site s Action-F.Stop is refl refl
  one-of site (Action-F.Log logged) is = one-item definitions site s (Action-F.Log logged) is refl refl
  one-of site (Action-F.Setverdict verdict reasons) is = one-item definitions site s (Action-F.Setverdict verdict reasons) is refl refl
  one-of site (Action-F.Connect one other) is = one-item definitions site s (Action-F.Connect one other) is refl refl
  one-of site (Action-F.Map m) is = one-item definitions site s (Action-F.Map m) is refl refl
  one-of site (Action-F.Send send) is = one-item definitions site s (Action-F.Send send) is refl refl
  one-of site (Action-F.StartComponent reference call) is = one-item definitions site s (Action-F.StartComponent reference call) is refl refl
  one-of site (Action-F.StartTimer timer) is = one-item definitions site s (Action-F.StartTimer timer) is refl refl
  one-of site (Action-F.StopOf reference) is = one-item definitions site s (Action-F.StopOf reference) is refl refl
  one-of site (Action-F.Activate call) is = one-item definitions site s (Action-F.Activate call) is refl refl
  one-of site (Action-F.Deactivate reference) is = one-item definitions site s (Action-F.Deactivate reference) is refl refl
