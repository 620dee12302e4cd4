-- Ports that are read one by one.
use Rattle.std.proofs.Common.{◌≡◌, ℕ, List, [], ◌∷◌, ◌++◌, Option, Some, None, string_bytes, refl, sym, ap, ◌∙◌, append_assoc}
use Rattle.std.specs.Option.{option_and_then, option_map}
use Rattle.ttcn_syntax.specs.declared.tree.definition.Definition.{Definition}
use Rattle.check_scope.specs.Names.{Names}
use Rattle.report_script.specs.Scripts.{port_given, ports_given}
use Rattle.semantics.specs.Snapshots.{Script}
use Rattle.serde_json.proofs.Views.{Entry}
use Rattle.serde_json.specs.View.{members_view, view}
use Rattle.value_types.specs.declared.value.Value.{Value}

joined : {A : Type 0} (before : List A) (x : A) (r : Option (List A)) → option_map (λ xs. before ++ xs) (option_map (λ xs. x ∷ xs) r) ≡ option_map (λ xs. (before ++ x ∷ []) ++ xs) r
joined before x None = refl
joined before x (Some xs) = ap Some (sym (append_assoc before (x ∷ []) xs))

-- one port more is read
pub more-ports : (definitions : List Definition) (names : Names) (all : Option Script) (es rest : List Entry) (e : Entry) (name : List ℕ) (messages : List Value) (ports new : Script)
    → all ≡ option_map (λ found. ports ++ found) (ports_given definitions names (members_view es)) → es ≡ e ∷ rest → Some messages ≡ port_given definitions names (string_bytes e.0) (view e.1)
    → name ≡ string_bytes e.0 → new ≡ ports ++ (name, messages) ∷ [] → all ≡ option_map (λ found. new ++ found) (ports_given definitions names (members_view rest))
more-ports definitions names all es rest e name messages ports new so_far split here named pushed =
    let others = ports_given definitions names (members_view rest) in
    so_far ∙ ap (λ xs. option_map (λ found. ports ++ found) (ports_given definitions names (members_view xs))) split
    ∙ ap (λ o. option_map (λ found. ports ++ found) (option_and_then (λ queue. option_map (λ found. (string_bytes e.0, queue) ∷ found) others) o)) (sym here)
    ∙ joined ports (string_bytes e.0, messages) others
    ∙ ap (λ n. option_map (λ found. (ports ++ (n, messages) ∷ []) ++ found) others) (sym named)
    ∙ ap (λ all_new. option_map (λ found. all_new ++ found) others) (sym pushed)
