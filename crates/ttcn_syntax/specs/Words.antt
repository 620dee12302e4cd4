-- The words: how each is spelled (ES 201 873-1, annex A, keywords; which of them are used is this subset's choice).
use Rattle.std.specs.Prelude.{ℕ, List, [], ◌∷◌, ◌==◌, if◌then◌else◌, codes}
use Rattle.ttcn_syntax.specs.declared.token.Word.{Word}
use Rattle.ttcn_syntax.specs.declared.token.Word.TheVariants as Used
use Rattle.ttcn_syntax.specs.declared.words.LeftOutWord.{LeftOutWord}
use Rattle.ttcn_syntax.specs.declared.words.LeftOutWord.TheVariants as LeftOut

-- how a word of the language is spelled
abbrev pub word_spelling : Word → List ℕ
word_spelling Used.Activate = codes "activate"
word_spelling Used.All = codes "all"
word_spelling Used.Alt = codes "alt"
word_spelling Used.Altstep = codes "altstep"
word_spelling Used.And = codes "and"
word_spelling Used.Any = codes "any"
word_spelling Used.Boolean = codes "boolean"
word_spelling Used.Complement = codes "complement"
word_spelling Used.Component = codes "component"
word_spelling Used.Connect = codes "connect"
word_spelling Used.Const = codes "const"
word_spelling Used.Control = codes "control"
word_spelling Used.Create = codes "create"
word_spelling Used.Deactivate = codes "deactivate"
word_spelling Used.Default = codes "default"
word_spelling Used.Do = codes "do"
word_spelling Used.Done = codes "done"
word_spelling Used.Else = codes "else"
word_spelling Used.Enumerated = codes "enumerated"
word_spelling Used.Error = codes "error"
word_spelling Used.Fail = codes "fail"
word_spelling Used.False = codes "false"
word_spelling Used.For = codes "for"
word_spelling Used.From = codes "from"
word_spelling Used.Function = codes "function"
word_spelling Used.If = codes "if"
word_spelling Used.Ifpresent = codes "ifpresent"
word_spelling Used.In = codes "in"
word_spelling Used.Inconc = codes "inconc"
word_spelling Used.Infinity = codes "infinity"
word_spelling Used.Inout = codes "inout"
word_spelling Used.Integer = codes "integer"
word_spelling Used.Ispresent = codes "ispresent"
word_spelling Used.Language = codes "language"
word_spelling Used.Log = codes "log"
word_spelling Used.Map = codes "map"
word_spelling Used.Message = codes "message"
word_spelling Used.Mod = codes "mod"
word_spelling Used.Module = codes "module"
word_spelling Used.Mtc = codes "mtc"
word_spelling Used.None = codes "none"
word_spelling Used.Not = codes "not"
word_spelling Used.Null = codes "null"
word_spelling Used.Omit = codes "omit"
word_spelling Used.On = codes "on"
word_spelling Used.Optional = codes "optional"
word_spelling Used.Or = codes "or"
word_spelling Used.Out = codes "out"
word_spelling Used.Pass = codes "pass"
word_spelling Used.Port = codes "port"
word_spelling Used.Receive = codes "receive"
word_spelling Used.Record = codes "record"
word_spelling Used.Rem = codes "rem"
word_spelling Used.Repeat = codes "repeat"
word_spelling Used.Return = codes "return"
word_spelling Used.Running = codes "running"
word_spelling Used.Runs = codes "runs"
word_spelling Used.SelfWord = codes "self"
word_spelling Used.Send = codes "send"
word_spelling Used.Sender = codes "sender"
word_spelling Used.Setverdict = codes "setverdict"
word_spelling Used.Start = codes "start"
word_spelling Used.Stop = codes "stop"
word_spelling Used.System = codes "system"
word_spelling Used.Template = codes "template"
word_spelling Used.Testcase = codes "testcase"
word_spelling Used.Timeout = codes "timeout"
word_spelling Used.Timer = codes "timer"
word_spelling Used.To = codes "to"
word_spelling Used.True = codes "true"
word_spelling Used.Type = codes "type"
word_spelling Used.Unmap = codes "unmap"
word_spelling Used.Value = codes "value"
word_spelling Used.Var = codes "var"
word_spelling Used.While = codes "while"
word_spelling Used.With = codes "with"
word_spelling Used.Xor = codes "xor"

-- how a word that the subset leaves out is spelled
abbrev pub left_out_spelling : LeftOutWord → List ℕ
left_out_spelling LeftOut.Action = codes "action"
left_out_spelling LeftOut.Address = codes "address"
left_out_spelling LeftOut.Alive = codes "alive"
left_out_spelling LeftOut.And4b = codes "and4b"
left_out_spelling LeftOut.Anytype = codes "anytype"
left_out_spelling LeftOut.Bitstring = codes "bitstring"
left_out_spelling LeftOut.Break = codes "break"
left_out_spelling LeftOut.Call = codes "call"
left_out_spelling LeftOut.Case = codes "case"
left_out_spelling LeftOut.Catch = codes "catch"
left_out_spelling LeftOut.Charstring = codes "charstring"
left_out_spelling LeftOut.Check = codes "check"
left_out_spelling LeftOut.Clear = codes "clear"
left_out_spelling LeftOut.Continue = codes "continue"
left_out_spelling LeftOut.Disconnect = codes "disconnect"
left_out_spelling LeftOut.Execute = codes "execute"
left_out_spelling LeftOut.Extends = codes "extends"
left_out_spelling LeftOut.External = codes "external"
left_out_spelling LeftOut.Float = codes "float"
left_out_spelling LeftOut.Friend = codes "friend"
left_out_spelling LeftOut.Getcall = codes "getcall"
left_out_spelling LeftOut.Getreply = codes "getreply"
left_out_spelling LeftOut.Getverdict = codes "getverdict"
left_out_spelling LeftOut.Goto = codes "goto"
left_out_spelling LeftOut.Group = codes "group"
left_out_spelling LeftOut.Halt = codes "halt"
left_out_spelling LeftOut.Hexstring = codes "hexstring"
left_out_spelling LeftOut.Import = codes "import"
left_out_spelling LeftOut.Interleave = codes "interleave"
left_out_spelling LeftOut.Kill = codes "kill"
left_out_spelling LeftOut.Killed = codes "killed"
left_out_spelling LeftOut.Label = codes "label"
left_out_spelling LeftOut.Length = codes "length"
left_out_spelling LeftOut.Match = codes "match"
left_out_spelling LeftOut.Modifies = codes "modifies"
left_out_spelling LeftOut.Modulepar = codes "modulepar"
left_out_spelling LeftOut.Not4b = codes "not4b"
left_out_spelling LeftOut.Octetstring = codes "octetstring"
left_out_spelling LeftOut.Of = codes "of"
left_out_spelling LeftOut.Or4b = codes "or4b"
left_out_spelling LeftOut.Pattern = codes "pattern"
left_out_spelling LeftOut.Permutation = codes "permutation"
left_out_spelling LeftOut.Private = codes "private"
left_out_spelling LeftOut.Procedure = codes "procedure"
left_out_spelling LeftOut.Public = codes "public"
left_out_spelling LeftOut.Raise = codes "raise"
left_out_spelling LeftOut.Read = codes "read"
left_out_spelling LeftOut.Reply = codes "reply"
left_out_spelling LeftOut.Select = codes "select"
left_out_spelling LeftOut.Set = codes "set"
left_out_spelling LeftOut.Signature = codes "signature"
left_out_spelling LeftOut.Subset = codes "subset"
left_out_spelling LeftOut.Superset = codes "superset"
left_out_spelling LeftOut.Trigger = codes "trigger"
left_out_spelling LeftOut.Union = codes "union"
left_out_spelling LeftOut.Universal = codes "universal"
left_out_spelling LeftOut.Valueof = codes "valueof"
left_out_spelling LeftOut.Verdicttype = codes "verdicttype"
left_out_spelling LeftOut.Xor4b = codes "xor4b"

-- the words of the language that have this length: where the code seeks one
abbrev pub words_of_length : ℕ → List Word
words_of_length n =
    if n == 2 then (Used.Do ∷ Used.If ∷ Used.In ∷ Used.On ∷ Used.Or ∷ Used.To ∷ []) else
    if n == 3 then (Used.All ∷ Used.Alt ∷ Used.And ∷ Used.Any ∷ Used.For ∷ Used.Log ∷ Used.Map ∷ Used.Mod ∷ Used.Mtc ∷ Used.Not ∷ Used.Out ∷ Used.Rem ∷ Used.Var ∷ Used.Xor ∷ []) else
    if n == 4 then (Used.Done ∷ Used.Else ∷ Used.Fail ∷ Used.From ∷ Used.None ∷ Used.Null ∷ Used.Omit ∷ Used.Pass ∷ Used.Port ∷ Used.Runs ∷ Used.SelfWord ∷ Used.Send ∷ Used.Stop ∷ Used.True ∷ Used.Type ∷ Used.With ∷ []) else
    if n == 5 then (Used.Const ∷ Used.Error ∷ Used.False ∷ Used.Inout ∷ Used.Start ∷ Used.Timer ∷ Used.Unmap ∷ Used.Value ∷ Used.While ∷ []) else
    if n == 6 then (Used.Create ∷ Used.Inconc ∷ Used.Module ∷ Used.Record ∷ Used.Repeat ∷ Used.Return ∷ Used.Sender ∷ Used.System ∷ []) else
    if n == 7 then (Used.Altstep ∷ Used.Boolean ∷ Used.Connect ∷ Used.Control ∷ Used.Default ∷ Used.Integer ∷ Used.Message ∷ Used.Receive ∷ Used.Running ∷ Used.Timeout ∷ []) else
    if n == 8 then (Used.Activate ∷ Used.Function ∷ Used.Infinity ∷ Used.Language ∷ Used.Optional ∷ Used.Template ∷ Used.Testcase ∷ []) else
    if n == 9 then (Used.Component ∷ Used.Ifpresent ∷ Used.Ispresent ∷ []) else
    if n == 10 then (Used.Complement ∷ Used.Deactivate ∷ Used.Enumerated ∷ Used.Setverdict ∷ []) else
    []

-- the left-out words that have this length: where the code seeks one
abbrev pub left_out_of_length : ℕ → List LeftOutWord
left_out_of_length n =
    if n == 2 then (LeftOut.Of ∷ []) else
    if n == 3 then (LeftOut.Set ∷ []) else
    if n == 4 then (LeftOut.Call ∷ LeftOut.Case ∷ LeftOut.Goto ∷ LeftOut.Halt ∷ LeftOut.Kill ∷ LeftOut.Or4b ∷ LeftOut.Read ∷ []) else
    if n == 5 then (LeftOut.Alive ∷ LeftOut.And4b ∷ LeftOut.Break ∷ LeftOut.Catch ∷ LeftOut.Check ∷ LeftOut.Clear ∷ LeftOut.Float ∷ LeftOut.Group ∷ LeftOut.Label ∷ LeftOut.Match ∷ LeftOut.Not4b ∷ LeftOut.Raise ∷ LeftOut.Reply ∷ LeftOut.Union ∷ LeftOut.Xor4b ∷ []) else
    if n == 6 then (LeftOut.Action ∷ LeftOut.Friend ∷ LeftOut.Import ∷ LeftOut.Killed ∷ LeftOut.Length ∷ LeftOut.Public ∷ LeftOut.Select ∷ LeftOut.Subset ∷ []) else
    if n == 7 then (LeftOut.Address ∷ LeftOut.Anytype ∷ LeftOut.Execute ∷ LeftOut.Extends ∷ LeftOut.Getcall ∷ LeftOut.Pattern ∷ LeftOut.Private ∷ LeftOut.Trigger ∷ LeftOut.Valueof ∷ []) else
    if n == 8 then (LeftOut.Continue ∷ LeftOut.External ∷ LeftOut.Getreply ∷ LeftOut.Modifies ∷ LeftOut.Superset ∷ []) else
    if n == 9 then (LeftOut.Bitstring ∷ LeftOut.Hexstring ∷ LeftOut.Modulepar ∷ LeftOut.Procedure ∷ LeftOut.Signature ∷ LeftOut.Universal ∷ []) else
    if n == 10 then (LeftOut.Charstring ∷ LeftOut.Disconnect ∷ LeftOut.Getverdict ∷ LeftOut.Interleave ∷ []) else
    if n == 11 then (LeftOut.Octetstring ∷ LeftOut.Permutation ∷ LeftOut.Verdicttype ∷ []) else
    []
