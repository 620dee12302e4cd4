use Rattle.std.proofs.Common.{◌≡◌, ◌++◌, drop}
use Rattle.std.specs.Option.{option_map}
use Rattle.report_script.specs.Scripts.{messages_in}
use Rattle.serde_json.specs.View.{items_view}
use Rattle.report_script.proofs.message.read_messages.Given as goal

-- the messages so far come before those that are left
abbrev pub invariant-loop-json : goal.invariant-loop-json
invariant-loop-json l =
    messages_in l.scope.definitions.now l.port (items_view l.list)
    ≡ option_map (λ vs. l.messages.items ++ vs) (messages_in l.scope.definitions.now l.port (items_view (drop l.json-index l.list)))
