-- How templates are built step by step (ES 201 873-1, 15): each step makes a list of templates of another, and what a template of the text gives is the one that its steps leave.
use Rattle.std.specs.Prelude.{◌≡◌, ◌≤◌, ◌<◌, ℕ, ◌-◌, true, List, [], ◌∷◌, ◌++◌, Ok, Err, None, Result, drop, length, map, nat_le, take, if◌then◌else◌}
use Rattle.value_types.specs.Outcomes.{Outcome, Yields, outcome_and_then, outcome_map, unmet, value_in}
use Rattle.value_types.specs.Readings.{Reading}
use Rattle.value_types.specs.Templates.{plain, with_ifpresent}
use Rattle.value_types.specs.declared.fault.Fault.{Fault}
use Rattle.value_types.specs.declared.fault.Fault.TheVariants.{Dynamic, Memory}
use Rattle.ttcn_values.specs.declared.reader.Step.{Step}
use Rattle.ttcn_values.specs.declared.reader.Step.TheVariants as step
use Rattle.value_types.specs.declared.template.Pattern.TheVariants as pattern
use Rattle.value_types.specs.declared.template.Template.{Template}

-- what is made of the templates so far
abbrev pub Build : Type 0
Build = List Template → Outcome (List Template)

-- the templates so far with these behind them
abbrev pub with_more : Outcome (List Template) → Build
with_more more templates = outcome_map (λ others. templates ++ others) more

-- two builds one after the other
abbrev pub one_after : Build → Build → Build
one_after first next templates = outcome_and_then next (first templates)

-- a template by itself
abbrev pub alone : Template → List Template
alone t = t ∷ []

-- the last so many become one
abbrev pub last_as : (List Template → List Template) → ℕ → Build
last_as make count templates =
    if nat_le count (length templates)
    then Yields (take (length templates - count) templates ++ make (drop (length templates - count) templates))
    else unmet

-- what a step makes of the templates so far
abbrev pub after_step : Reading → Step → Build
after_step reading (step.Plain p) = with_more (Yields (alone (plain p)))
after_step reading (step.Call at values) = with_more (outcome_map alone (reading.templates at values))
after_step reading (step.Complement count) = last_as (λ parts. alone (plain (pattern.Complement parts))) count
after_step reading (step.List count) = last_as (λ parts. alone (plain (pattern.List parts))) count
after_step reading (step.Record at count) = last_as (λ parts. alone (plain (pattern.Record at parts))) count
after_step reading step.Ifpresent = last_as (map (with_ifpresent true)) 1

-- what steps make of the templates so far
abbrev pub after_steps : Reading → List Step → Build
after_steps reading [] templates = Yields templates
after_steps reading (s ∷ steps) templates = outcome_and_then (after_steps reading steps) (after_step reading s templates)

-- ---- calls

-- a call writes down steps behind others that add these templates, or fails where there are none for whatever reason, unless memory was refused
abbrev pub Plans : Reading → Outcome (List Template) → List Step → List Step → Result (Unit {0}) Fault → Type 0
Plans reading templates old new (Ok done) = after_steps reading new ≡ one_after (after_steps reading old) (with_more templates)
Plans reading templates old new (Err Dynamic) = value_in templates ≡ None
Plans reading templates old new (Err Memory) = Unit {0}

-- a call does this to a list of templates, or fails where that fails
abbrev pub Builds : Outcome (List Template) → List Template → Result (Unit {0}) Fault → Type 0
Builds built new (Ok done) = built ≡ Yields new
Builds built new (Err Dynamic) = value_in built ≡ None
Builds built new (Err Memory) = Unit {0}

-- the last so many leave a list, if there are so many
abbrev pub Gathers : ℕ → List Template → List Template → Result (List Template) Fault → Type 0
Gathers count old new (Ok parts) = (count ≤ length old) × (new ≡ take (length old - count) old) × (parts ≡ drop (length old - count) old)
Gathers count old new (Err Dynamic) = length old < count
Gathers count old new (Err Memory) = Unit {0}
