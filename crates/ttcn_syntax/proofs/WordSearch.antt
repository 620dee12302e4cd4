-- The search for a word among those of its length finds it, exactly where the bytes spell one.
use Rattle.std.proofs.Common.{◌≡◌, ◌≢◌, ℕ, Bool, true, false, cond, nat_eq, List, [], ◌∷◌, length, Option, Some, None, refl, subst}
use Rattle.std.specs.List.{find}
use Rattle.std.specs.Cmp.Lexicographic.{pointwise, same_text}
use Rattle.ttcn_syntax.specs.declared.token.Word.{Word}
use Rattle.ttcn_syntax.specs.declared.token.Word.TheVariants as Used
use Rattle.ttcn_syntax.specs.declared.words.LeftOutWord.{LeftOutWord}
use Rattle.ttcn_syntax.specs.declared.words.LeftOutWord.TheVariants as LeftOut
use Rattle.ttcn_syntax.specs.Words.{word_spelling, left_out_spelling, words_of_length, left_out_of_length}

-- a search that stops at v or goes on
stops-or-goes-on : {W : Type 0} (spelling : W → List ℕ) (v w : W) (later : Option W) (bytes : List ℕ) (test : Bool)
    → test ≡ pointwise nat_eq (spelling v) bytes → (later ≡ Some w → spelling w ≡ bytes)
    → cond test (Some v) later ≡ Some w → spelling w ≡ bytes
stops-or-goes-on spelling v w later bytes true is more found =
    let same : v ≡ w = cc in
    subst (λ x. spelling x ≡ bytes) same (same_text (spelling v) bytes is)
stops-or-goes-on spelling v w later bytes false is more found = more found

-- what is found is spelled by the bytes
pub found-spelled : {W : Type 0} (spelling : W → List ℕ) (words : List W) (bytes : List ℕ) (w : W)
    → find (λ v. pointwise nat_eq (spelling v) bytes) words ≡ Some w → spelling w ≡ bytes
found-spelled spelling [] bytes w found = cc
found-spelled spelling (v ∷ vs) bytes w found =
    stops-or-goes-on spelling v w (find (λ v. pointwise nat_eq (spelling v) bytes) vs) bytes (pointwise nat_eq (spelling v) bytes) refl (found-spelled spelling vs bytes w) found

-- each word of the language is found by its spelling
word-found : (w : Word) → find (λ v. pointwise nat_eq (word_spelling v) (word_spelling w)) (words_of_length (length (word_spelling w))) ≡ Some w
word-found Used.Activate = refl
word-found Used.All = refl
word-found Used.Alt = refl
word-found Used.Altstep = refl
word-found Used.And = refl
word-found Used.Any = refl
word-found Used.Boolean = refl
word-found Used.Complement = refl
word-found Used.Component = refl
word-found Used.Connect = refl
word-found Used.Const = refl
word-found Used.Control = refl
word-found Used.Create = refl
word-found Used.Deactivate = refl
word-found Used.Default = refl
word-found Used.Do = refl
word-found Used.Done = refl
word-found Used.Else = refl
word-found Used.Enumerated = refl
word-found Used.Error = refl
word-found Used.Fail = refl
word-found Used.False = refl
word-found Used.For = refl
word-found Used.From = refl
word-found Used.Function = refl
word-found Used.If = refl
word-found Used.Ifpresent = refl
word-found Used.In = refl
word-found Used.Inconc = refl
word-found Used.Infinity = refl
word-found Used.Inout = refl
word-found Used.Integer = refl
word-found Used.Ispresent = refl
word-found Used.Language = refl
word-found Used.Log = refl
word-found Used.Map = refl
word-found Used.Message = refl
word-found Used.Mod = refl
word-found Used.Module = refl
word-found Used.Mtc = refl
word-found Used.None = refl
word-found Used.Not = refl
word-found Used.Null = refl
word-found Used.Omit = refl
word-found Used.On = refl
word-found Used.Optional = refl
word-found Used.Or = refl
word-found Used.Out = refl
word-found Used.Pass = refl
word-found Used.Port = refl
word-found Used.Receive = refl
word-found Used.Record = refl
word-found Used.Rem = refl
word-found Used.Repeat = refl
word-found Used.Return = refl
word-found Used.Running = refl
word-found Used.Runs = refl
word-found Used.SelfWord = refl
word-found Used.Send = refl
word-found Used.Sender = refl
word-found Used.Setverdict = refl
word-found Used.Start = refl
word-found Used.Stop = refl
word-found Used.System = refl
word-found Used.Template = refl
word-found Used.Testcase = refl
word-found Used.Timeout = refl
word-found Used.Timer = refl
word-found Used.To = refl
word-found Used.True = refl
word-found Used.Type = refl
word-found Used.Unmap = refl
word-found Used.Value = refl
word-found Used.Var = refl
word-found Used.While = refl
word-found Used.With = refl
word-found Used.Xor = refl

-- each left-out word is found by its spelling
left-out-found : (w : LeftOutWord) → find (λ v. pointwise nat_eq (left_out_spelling v) (left_out_spelling w)) (left_out_of_length (length (left_out_spelling w))) ≡ Some w
left-out-found LeftOut.Action = refl
left-out-found LeftOut.Address = refl
left-out-found LeftOut.Alive = refl
left-out-found LeftOut.And4b = refl
left-out-found LeftOut.Anytype = refl
left-out-found LeftOut.Bitstring = refl
left-out-found LeftOut.Break = refl
left-out-found LeftOut.Call = refl
left-out-found LeftOut.Case = refl
left-out-found LeftOut.Catch = refl
left-out-found LeftOut.Charstring = refl
left-out-found LeftOut.Check = refl
left-out-found LeftOut.Clear = refl
left-out-found LeftOut.Continue = refl
left-out-found LeftOut.Disconnect = refl
left-out-found LeftOut.Execute = refl
left-out-found LeftOut.Extends = refl
left-out-found LeftOut.External = refl
left-out-found LeftOut.Float = refl
left-out-found LeftOut.Friend = refl
left-out-found LeftOut.Getcall = refl
left-out-found LeftOut.Getreply = refl
left-out-found LeftOut.Getverdict = refl
left-out-found LeftOut.Goto = refl
left-out-found LeftOut.Group = refl
left-out-found LeftOut.Halt = refl
left-out-found LeftOut.Hexstring = refl
left-out-found LeftOut.Import = refl
left-out-found LeftOut.Interleave = refl
left-out-found LeftOut.Kill = refl
left-out-found LeftOut.Killed = refl
left-out-found LeftOut.Label = refl
left-out-found LeftOut.Length = refl
left-out-found LeftOut.Match = refl
left-out-found LeftOut.Modifies = refl
left-out-found LeftOut.Modulepar = refl
left-out-found LeftOut.Not4b = refl
left-out-found LeftOut.Octetstring = refl
left-out-found LeftOut.Of = refl
left-out-found LeftOut.Or4b = refl
left-out-found LeftOut.Pattern = refl
left-out-found LeftOut.Permutation = refl
left-out-found LeftOut.Private = refl
left-out-found LeftOut.Procedure = refl
left-out-found LeftOut.Public = refl
left-out-found LeftOut.Raise = refl
left-out-found LeftOut.Read = refl
left-out-found LeftOut.Reply = refl
left-out-found LeftOut.Select = refl
left-out-found LeftOut.Set = refl
left-out-found LeftOut.Signature = refl
left-out-found LeftOut.Subset = refl
left-out-found LeftOut.Superset = refl
left-out-found LeftOut.Trigger = refl
left-out-found LeftOut.Union = refl
left-out-found LeftOut.Universal = refl
left-out-found LeftOut.Valueof = refl
left-out-found LeftOut.Verdicttype = refl
left-out-found LeftOut.Xor4b = refl

-- where no word of the language is found, none is spelled
pub no-word-spelled : (bytes : List ℕ) → find (λ v. pointwise nat_eq (word_spelling v) bytes) (words_of_length (length bytes)) ≡ None
    → (w : Word) → word_spelling w ≢ bytes
no-word-spelled bytes none w is =
    let some = subst (λ bs. find (λ v. pointwise nat_eq (word_spelling v) bs) (words_of_length (length bs)) ≡ Some w) is (word-found w) in
    cc

-- where no left-out word is found, none is spelled
pub no-left-out-spelled : (bytes : List ℕ) → find (λ v. pointwise nat_eq (left_out_spelling v) bytes) (left_out_of_length (length bytes)) ≡ None
    → (w : LeftOutWord) → left_out_spelling w ≢ bytes
no-left-out-spelled bytes none w is =
    let some = subst (λ bs. find (λ v. pointwise nat_eq (left_out_spelling v) bs) (left_out_of_length (length bs)) ≡ Some w) is (left-out-found w) in
    cc

-- no word of the language is a left-out one
word-kept : (w : Word) → find (λ v. pointwise nat_eq (left_out_spelling v) (word_spelling w)) (left_out_of_length (length (word_spelling w))) ≡ None
word-kept Used.Activate = refl
word-kept Used.All = refl
word-kept Used.Alt = refl
word-kept Used.Altstep = refl
word-kept Used.And = refl
word-kept Used.Any = refl
word-kept Used.Boolean = refl
word-kept Used.Complement = refl
word-kept Used.Component = refl
word-kept Used.Connect = refl
word-kept Used.Const = refl
word-kept Used.Control = refl
word-kept Used.Create = refl
word-kept Used.Deactivate = refl
word-kept Used.Default = refl
word-kept Used.Do = refl
word-kept Used.Done = refl
word-kept Used.Else = refl
word-kept Used.Enumerated = refl
word-kept Used.Error = refl
word-kept Used.Fail = refl
word-kept Used.False = refl
word-kept Used.For = refl
word-kept Used.From = refl
word-kept Used.Function = refl
word-kept Used.If = refl
word-kept Used.Ifpresent = refl
word-kept Used.In = refl
word-kept Used.Inconc = refl
word-kept Used.Infinity = refl
word-kept Used.Inout = refl
word-kept Used.Integer = refl
word-kept Used.Ispresent = refl
word-kept Used.Language = refl
word-kept Used.Log = refl
word-kept Used.Map = refl
word-kept Used.Message = refl
word-kept Used.Mod = refl
word-kept Used.Module = refl
word-kept Used.Mtc = refl
word-kept Used.None = refl
word-kept Used.Not = refl
word-kept Used.Null = refl
word-kept Used.Omit = refl
word-kept Used.On = refl
word-kept Used.Optional = refl
word-kept Used.Or = refl
word-kept Used.Out = refl
word-kept Used.Pass = refl
word-kept Used.Port = refl
word-kept Used.Receive = refl
word-kept Used.Record = refl
word-kept Used.Rem = refl
word-kept Used.Repeat = refl
word-kept Used.Return = refl
word-kept Used.Running = refl
word-kept Used.Runs = refl
word-kept Used.SelfWord = refl
word-kept Used.Send = refl
word-kept Used.Sender = refl
word-kept Used.Setverdict = refl
word-kept Used.Start = refl
word-kept Used.Stop = refl
word-kept Used.System = refl
word-kept Used.Template = refl
word-kept Used.Testcase = refl
word-kept Used.Timeout = refl
word-kept Used.Timer = refl
word-kept Used.To = refl
word-kept Used.True = refl
word-kept Used.Type = refl
word-kept Used.Unmap = refl
word-kept Used.Value = refl
word-kept Used.Var = refl
word-kept Used.While = refl
word-kept Used.With = refl
word-kept Used.Xor = refl

-- words that are spelled alike are one
pub word-one : (w v : Word) → word_spelling w ≡ word_spelling v → w ≡ v
word-one w v e =
    let first = subst (λ bs. find (λ x. pointwise nat_eq (word_spelling x) bs) (words_of_length (length bs)) ≡ Some w) e (word-found w) in
    let second = word-found v in
    cc

pub word-not-left-out : (w : Word) (v : LeftOutWord) → word_spelling w ≢ left_out_spelling v
word-not-left-out w v e =
    let none = subst (λ bs. find (λ x. pointwise nat_eq (left_out_spelling x) bs) (left_out_of_length (length bs)) ≡ None) e (word-kept w) in
    let some = left-out-found v in
    cc
