-- Arguments, one by one.
use Rattle.std.proofs.Common.{◌≡◌, ℕ, ◌+◌, ◌<◌, ◌≤◌, List, length, get_or, drop, sym, ap, ◌∙◌}
use Rattle.std.proofs.lemmas.List.{drop_all}
use Rattle.ttcn_syntax.specs.declared.tree.definition.Parameter.{Parameter}
use Rattle.ttcn_syntax.specs.declared.tree.value.Value.{Value}
use Rattle.check_scope.proofs.Leasts.{both-assoc, both-nothing, least_append}
use Rattle.check_scope.proofs.Lookups.{drop-next}
use Rattle.check_rules.specs.Calls.{arguments, next_parameters, parameter_target}
use Rattle.check_scope.specs.internal.Checking.{both, least}
use Rattle.check_scope.specs.Names.{Scope}
use Rattle.check_rules.specs.Values.{value}
use Rattle.check_scope.specs.declared.broken.Broken.{Broken}

-- what was found so far, with what the arguments that are left break
abbrev pub rest_of_arguments : Scope → List Parameter → List Value → Broken → Broken
rest_of_arguments scope parameters given found = both found (least (arguments scope parameters given))

pub arguments-next : (scope : Scope) (parameters left : List Parameter) (given : List Value) (i : ℕ) (argument : Value) (found part next : Broken)
    → i < length given → argument ≡ get_or given i argument → left ≡ next_parameters parameters
    → part ≡ least (value argument scope (parameter_target scope parameters)) → next ≡ both found part
    → rest_of_arguments scope parameters (drop i given) found ≡ rest_of_arguments scope left (drop (i + 1) given) next
arguments-next scope parameters left given i argument found part next inside is left_is part-is next_is =
    ap (λ others. rest_of_arguments scope parameters others found) (drop-next given i argument inside is)
    ∙ ap (both found) (least_append (value argument scope (parameter_target scope parameters)) (arguments scope (next_parameters parameters) (drop (i + 1) given)))
    ∙ sym (both-assoc found (least (value argument scope (parameter_target scope parameters))) (least (arguments scope (next_parameters parameters) (drop (i + 1) given))))
    ∙ ap (rest_of_arguments scope (next_parameters parameters) (drop (i + 1) given)) (sym (next_is ∙ ap (both found) part-is))
    ∙ ap (λ ps. rest_of_arguments scope ps (drop (i + 1) given) next) (sym left_is)

pub arguments-end : (scope : Scope) (parameters : List Parameter) (given : List Value) (i : ℕ) (found : Broken) → length given ≤ i
    → rest_of_arguments scope parameters (drop i given) found ≡ found
arguments-end scope parameters given i found past = ap (λ others. rest_of_arguments scope parameters others found) (drop_all i given past) ∙ both-nothing found
