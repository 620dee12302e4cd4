-- A script that is read fits its test case.
use Rattle.std.proofs.Common.{◌≡◌, ℕ, Bool, true, false, ◌||◌, List, [], ◌∷◌, map, length, nat_lt, Option, Some, None, Result, Ok, Err, cond, is_some, refl, sym, ap, subst, ◌∙◌, suc, arith}
use Rattle.std.proofs.lemmas.Bool.{and_parts}
use Rattle.std.proofs.lemmas.List.Elements.{All-cons, All-nil}
use Rattle.std.proofs.lemmas.List.Folds.{list_all-append}
use Rattle.std.specs.List.{All, Contains, flat_map, list_all, list_any}
use Rattle.std.specs.Option.{option_map}
use Rattle.serde_json.specs.Data.{Data, Items, no_items, item, Members, no_members, member}
use Rattle.serde_json.specs.Find.{as_array, as_object}
use Rattle.ttcn_syntax.specs.declared.tree.definition.Definition.{Definition}
use Rattle.ttcn_syntax.specs.declared.tree.definition.DefinitionKind.{DefinitionKind}
use Rattle.ttcn_syntax.specs.declared.tree.definition.DefinitionKind.TheVariants as kind
use Rattle.ttcn_syntax.specs.declared.tree.definition.PortMessages.{PortMessages}
use Rattle.ttcn_syntax.specs.declared.tree.value.TypeName.{TypeName}
use Rattle.ttcn_syntax.specs.declared.tree.value.TypeName.TheVariants as type_name
use Rattle.check_rules.specs.Definitions.{as_part, check_messages, check_part}
use Rattle.check_rules.specs.Messages.{port_meant}
use Rattle.check_rules.specs.Rules.{AreWellTyped}
use Rattle.check_scope.specs.Names.{Names, kind_at, module_names, resolved, type_meant}
use Rattle.check_scope.specs.PortTypes.{agrees, passes, types_of_port, types_passing}
use Rattle.check_scope.specs.Typings.{target_of}
use Rattle.check_scope.specs.declared.names.Meaning.{Meaning}
use Rattle.check_scope.specs.declared.names.Meaning.TheVariants as meaning
use Rattle.check_scope.specs.declared.types.DataType.{DataType}
use Rattle.laws_checker.proofs.Nothing.{nothing-first, nothing-rest}
use Rattle.laws_checker.proofs.Whole.{definition_is_fine}
use Rattle.laws_evaluation.proofs.TypedLiterals.{same-type}
use Rattle.report_script.proofs.Stands.{allowed, followed, mapped, some-same, value-fits}
use Rattle.report_script.specs.Scripts.{are_ports, json_in, message_given, message_in, message_of, messages_given, messages_in, most_bytes, or_refused, port_given, ports_given, script_of, script_of_json, script_said, system_names, test_with, type_named}
use Rattle.report_script.specs.Values.{value_given}
use Rattle.report_script.specs.declared.error.ScriptError.{ScriptError}
use Rattle.report_script.specs.declared.error.ScriptError.TheVariants as scripting
use Rattle.semantics.specs.Snapshots.{Script}
use Rattle.semantics.specs.Statements.{takes, types_at}
use Rattle.step_script.specs.Fitting.{ComesIn, FitsPort, FitsScript}
use Rattle.value_types.specs.declared.value.Value.{Value}

-- ---- the types that ports list

part-there : (m : Option Meaning) → as_part m ≡ [] → is_some (type_meant m) ≡ true
part-there (Some (meaning.Record at)) nothing = refl
part-there (Some (meaning.Enumerated at)) nothing = refl
part-there (Some (meaning.Component at)) nothing = refl
part-there (Some (meaning.PortType at)) nothing = absurd (let e = nothing in cc)
part-there _ nothing = absurd (let e = nothing in cc)

type-there : (names : Names) (t : TypeName) → check_part names t ≡ [] → is_some (resolved names t) ≡ true
type-there names type_name.Integer nothing = refl
type-there names type_name.Boolean nothing = refl
type-there names type_name.Default nothing = refl
type-there names (type_name.Named name) nothing = part-there (names name) nothing

types-there : (names : Names) (types : List TypeName) → flat_map (check_part names) types ≡ [] → list_all is_some (map (resolved names) types) ≡ true
types-there names [] nothing = refl
types-there names (t ∷ types) nothing =
    let first = type-there names t (nothing-first (check_part names t) (flat_map (check_part names) types) nothing) in
    let rest = types-there names types (nothing-rest (check_part names t) (flat_map (check_part names) types) nothing) in
    rw (first, rest)

passing-if : (b : Bool) (names : Names) (types : List TypeName) → flat_map (check_part names) types ≡ [] → list_all is_some (cond b (map (resolved names) types) []) ≡ true
passing-if true names types nothing = types-there names types nothing
passing-if false names types nothing = refl

passing-there : (names : Names) (incoming : Bool) (messages : List PortMessages) → flat_map (check_messages names) messages ≡ [] → list_all is_some (flat_map (types_passing names incoming) messages) ≡ true
passing-there names incoming [] nothing = refl
passing-there names incoming (m ∷ messages) nothing =
    let first = passing-if (passes incoming m.direction) names m.types (nothing-first (check_messages names m) (flat_map (check_messages names) messages) nothing) in
    let rest = passing-there names incoming messages (nothing-rest (check_messages names m) (flat_map (check_messages names) messages) nothing) in
    list_all-append is_some (types_passing names incoming m) (flat_map (types_passing names incoming) messages) ∙ rw (first, rest)

port-there : (definitions : List Definition) → AreWellTyped definitions → (at : ℕ) (incoming : Bool) (k : Option DefinitionKind) → kind_at definitions at ≡ k → list_all is_some (types_of_port (module_names definitions) incoming k) ≡ true
port-there definitions well at incoming (Some (kind.Port p)) is = passing-there (module_names definitions) incoming p.messages (definition_is_fine definitions well at (kind.Port p) is)
port-there definitions well at incoming (Some (kind.Record r)) is = refl
port-there definitions well at incoming (Some (kind.Enumerated e)) is = refl
port-there definitions well at incoming (Some (kind.Component c)) is = refl
port-there definitions well at incoming (Some (kind.Constants cs)) is = refl
port-there definitions well at incoming (Some (kind.Template t)) is = refl
port-there definitions well at incoming (Some (kind.Function f)) is = refl
port-there definitions well at incoming (Some (kind.Altstep a)) is = refl
port-there definitions well at incoming (Some (kind.Testcase t)) is = refl
port-there definitions well at incoming None is = refl

-- all types that a port of a checked module lists are known
types-known : (definitions : List Definition) → AreWellTyped definitions → (port : Option ℕ) → list_all is_some (types_at definitions true port) ≡ true
types-known definitions well None = refl
types-known definitions well (Some at) = port-there definitions well at true (kind_at definitions at) refl

later : {A : Type 0} (x : A) (xs : List A) (y : A) → Contains xs y → Contains (x ∷ xs) y
later x xs y (k, within, is) = (suc k, omega arith, is)

listed-case : (t : DataType) (other : Option DataType) (types : List (Option DataType)) (b : Bool) → is_some other ≡ true → agrees t other ≡ b → (list_any (agrees t) types ≡ true → Contains types (Some t))
    → (b || list_any (agrees t) types) ≡ true → Contains (other ∷ types) (Some t)
listed-case t None types b known agreed more is = absurd (let e = known in cc)
listed-case t (Some u) types true known agreed more is = (0, omega arith, ap Some (sym (same-type t u agreed)))
listed-case t (Some u) types false known agreed more is = later (Some u) types (Some t) (more is)

listed : (t : DataType) (types : List (Option DataType)) → list_all is_some types ≡ true → list_any (agrees t) types ≡ true → Contains types (Some t)
listed t [] known is = absurd (let e = is in cc)
listed t (other ∷ types) known is =
    let parts = and_parts (is_some other) (list_all is_some types) known in
    listed-case t other types (agrees t other) parts.0 refl (listed t types parts.1) is

-- ---- messages

module _ (definitions : List Definition) (well : AreWellTyped definitions) where
  of-comes : (port : Option ℕ) (d : Data) (t : Option DataType) (v : Value) → message_of definitions port d t ≡ Some v → ComesIn definitions port v
  of-comes port d None v gives = absurd (let e = gives in cc)
  of-comes port d (Some t) v gives =
      let may = allowed (takes (types_at definitions true port) (Some t)) (value_given d definitions (target_of (Some t))) v gives in
      let stands = value-fits d definitions (target_of (Some t)) v may.1 in
      record {
        data_type = t;
        is_typed = stands.is_typed refl;
        goes = stands.goes;
        is_whole = stands.is_whole;
        is_listed = listed t (types_at definitions true port) (types-known definitions well port) may.0;
      }

  in-comes : (port : Option ℕ) (ms : Members) (v : Value) → message_in definitions port ms ≡ Some v → ComesIn definitions port v
  in-comes port no_members v gives = absurd (let e = gives in cc)
  in-comes port (member name d no_members) v gives = of-comes port d (type_named definitions name) v gives
  in-comes port (member name d (member other e ms)) v gives = absurd (let e = gives in cc)

  message-comes : (port : Option ℕ) (d : Data) (v : Value) → message_given definitions port d ≡ Some v → ComesIn definitions port v
  message-comes port d v gives = let found = followed (message_in definitions port) (as_object d) v gives in in-comes port found.0 v found.2

  messages-come : (port : Option ℕ) (ds : Items) (vs : List Value) → messages_in definitions port ds ≡ Some vs → All (ComesIn definitions port) vs
  messages-come port no_items vs gives = subst (All (ComesIn definitions port)) (some-same [] vs gives) (All-nil (ComesIn definitions port))
  messages-come port (item d ds) vs gives =
      let found = followed (λ v. option_map (λ vs. v ∷ vs) (messages_in definitions port ds)) (message_given definitions port d) vs gives in
      let rest = mapped (λ vs. found.0 ∷ vs) (messages_in definitions port ds) vs found.2 in
      subst (All (ComesIn definitions port)) rest.2
      (All-cons (ComesIn definitions port) found.0 rest.0 (message-comes port d found.0 found.1) (messages-come port ds rest.0 rest.1))

  -- ---- ports

  port-fits : (testcase : ℕ) (whole : Script) (name : List ℕ) (d : Data) (messages : List Value) → port_given definitions (system_names definitions testcase) name d ≡ Some messages
      → FitsPort (test_with definitions testcase whole) (name, messages)
  port-fits testcase whole name d messages gives =
      let at = followed (λ port. messages_given definitions port d) (port_meant (system_names definitions testcase name)) messages gives in
      let found = followed (messages_in definitions at.0) (as_array d) messages at.2 in
      record { port = at.0; is_port = at.1; messages = messages-come at.0 found.0 messages found.2 }

  ports-fit : (testcase : ℕ) (whole : Script) (ms : Members) (script : Script) → ports_given definitions (system_names definitions testcase) ms ≡ Some script → All (FitsPort (test_with definitions testcase whole)) script
  ports-fit testcase whole no_members script gives = subst (All (FitsPort (test_with definitions testcase whole))) (some-same [] script gives) (All-nil (FitsPort (test_with definitions testcase whole)))
  ports-fit testcase whole (member name d ms) script gives =
      let names = system_names definitions testcase in
      let found = followed (λ messages. option_map (λ ports. (name, messages) ∷ ports) (ports_given definitions names ms)) (port_given definitions names name d) script gives in
      let rest = mapped (λ ports. (name, found.0) ∷ ports) (ports_given definitions names ms) script found.2 in
      subst (All (FitsPort (test_with definitions testcase whole))) rest.2
      (All-cons (FitsPort (test_with definitions testcase whole)) (name, found.0) rest.0 (port-fits testcase whole name d found.0 found.1) (ports-fit testcase whole ms rest.0 rest.1))

  -- ---- scripts

  ports-given : (b : Bool) (o : Option Script) (script : Script) → cond b (or_refused scripting.BadMessage o) (Err scripting.NoSuchPort) ≡ Ok script → o ≡ Some script
  ports-given true None script is = absurd (let e = is in cc)
  ports-given true (Some ports) script is = cc
  ports-given false o script is = absurd (let e = is in cc)

  object-fits : (testcase : ℕ) (o : Option Members) (script : Script) → script_of definitions (system_names definitions testcase) o ≡ Ok script → FitsScript (test_with definitions testcase script)
  object-fits testcase None script is = absurd (let e = is in cc)
  object-fits testcase (Some ms) script is =
      let names = system_names definitions testcase in
      ports-fit testcase script ms script (ports-given (are_ports names ms) (ports_given definitions names ms) script is)

  json-fits : (testcase : ℕ) (o : Option Data) (script : Script) → script_of_json definitions testcase o ≡ Ok script → FitsScript (test_with definitions testcase script)
  json-fits testcase None script is = absurd (let e = is in cc)
  json-fits testcase (Some d) script is = object-fits testcase (as_object d) script is

  not-large : (b : Bool) (r : Result Script ScriptError) (script : Script) → cond b (Err scripting.TooLarge) r ≡ Ok script → r ≡ Ok script
  not-large true r script is = absurd (let e = is in cc)
  not-large false r script is = is

  pub script-fits : (testcase : ℕ) (text : List ℕ) (script : Script) → script_said definitions testcase text ≡ Ok script → FitsScript (test_with definitions testcase script)
  script-fits testcase text script is =
      json-fits testcase (json_in text) script (not-large (nat_lt most_bytes (length text)) (script_of_json definitions testcase (json_in text)) script is)
