-- Which test case is meant by the text of a module, a script and a name, and what is answered where there is none.
use Rattle.std.specs.Prelude.{◌≡◌, ℕ, List, Some, None, Ok, Err}
use Rattle.semantics.specs.Snapshots.{Test}
use Rattle.ttcn_syntax.specs.declared.tree.definition.Definition.{Definition}
use Rattle.ttcn_syntax.specs.declared.tree.definition.Module.{Module}
use Rattle.check_rules.specs.Programs.{test_case_named}
use Rattle.report_script.specs.Scripts.{script_said}
use Rattle.report_script.specs.declared.error.ScriptError.{ScriptError}
use Rattle.ttcnx.specs.Checked.{IsRefusedWith, IsTextOf}
use Rattle.ttcnx.specs.Fault.{script_fault}
use Rattle.ttcnx.specs.declared.fault.Fault.{Fault}
use Rattle.ttcnx.specs.declared.fault.Fault.TheVariants as fault

-- what is given: the text of a module, and that of a script
pub record Source : Type 0 where
  pub text : List ℕ
  pub script : List ℕ

-- a module and a script
abbrev pub source : List ℕ → List ℕ → Source
source text script = record { text = text; script = script }

-- these definitions are those of the module of the text, and the test case of the name stands among them at this position
pub record IsCaseOf (text name : List ℕ) (definitions : List Definition) (at : ℕ) : Type 0 where
  pub tree : Module
  pub is_text : IsTextOf text tree
  pub of_tree : definitions ≡ tree.definitions
  pub is_named : test_case_named tree.definitions name ≡ Some at

-- why a text has no test case of a name
pub data HasNoCase (text name : List ℕ) : Fault → Type 0 where
  -- the text is that of no well-typed module: why
  refused : {why : Fault} → IsRefusedWith text why → HasNoCase text name why
  -- the text is that of a well-typed module without a test case of the name
  nameless : {tree : Module} → IsTextOf text tree → test_case_named tree.definitions name ≡ None → HasNoCase text name fault.NoSuchTestCase

-- the test case of the name in the module of the text, with the messages of the script
pub record IsTestOf (given : Source) (name : List ℕ) (test : Test) : Type 0 where
  pub is_case : IsCaseOf given.text name test.definitions test.testcase
  pub is_script : script_said test.definitions test.testcase given.script ≡ Ok test.script

-- why there is no such test case
pub data HasNoTest (given : Source) (name : List ℕ) : Fault → Type 0 where
  -- the text has no test case of the name: why
  caseless : {why : Fault} → HasNoCase given.text name why → HasNoTest given name why
  -- the text has one, and the script is refused for it: why
  unscripted : {definitions : List Definition} {at : ℕ} {error : ScriptError} → IsCaseOf given.text name definitions at → script_said definitions at given.script ≡ Err error
      → HasNoTest given name (script_fault error)
