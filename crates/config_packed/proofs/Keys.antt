-- What a component sees is read back from its key.
use Rattle.std.proofs.Common.{◌≡◌, ℕ, List, [], ◌++◌, map, Option, Some, None, refl, sym, ap, ◌∙◌, append_assoc}
use Rattle.std.proofs.lemmas.List.{append-nil}
use Rattle.std.specs.Option.{option_to_list}
use Rattle.config_packed.specs.Pieces.{SeeTheSame, ShareOutline, first_message, front_at, spell_front, spell_key}
use Rattle.config_packed.specs.Reading.{Reads, ◌>>=◌, done, read_links, read_list, read_long, read_name, read_own, read_queue, read_verdict}
use Rattle.config_packed.specs.Spelling.{name_of, spell_name, spell_outline}
use Rattle.config_packed.proofs.ConfigsBack.{links-back, name_back, own_back, queue_back, verdict-back}
use Rattle.config_packed.proofs.NumbersBack.{read-list-back, read-long-back}
use Rattle.ttcn_syntax.specs.declared.tree.statement.Verdict.{Verdict}
use Rattle.value_types.specs.declared.value.ComponentId.{ComponentId}
use Rattle.config_parts.specs.declared.component.Component.{Component}
use Rattle.config_parts.specs.declared.component.Message.{Message}
use Rattle.config_parts.specs.declared.component.Queue.{Queue}
use Rattle.config_parts.specs.declared.component.State.{State}
use Rattle.config_parts.specs.declared.config.Going.{Going}
use Rattle.config_parts.specs.declared.connection.Links.{Links}
use Rattle.config_parts.specs.declared.frame.Data.{Data}

-- ---- outlines

abbrev Outline : Type 0
Outline = Verdict × Links × List (ComponentId × State)

abbrev outline_of : Going → Outline
outline_of going = (going.forgotten, going.links, map name_of going.components)

read_outline : Reads Outline
read_outline = do
  forgotten ← read_verdict
  links ← read_links
  names ← read_list read_name
  done (forgotten, links, names)

outline-back : (going : Going) (rest : List ℕ) → read_outline (spell_outline going ++ rest) ≡ (outline_of going, rest)
unfolding read_outline spell_outline
outline-back going rest = simp (append_assoc, verdict-back, links-back, read-list-back spell_name read_name name_back)

same-outline : (g h : Going) → outline_of g ≡ outline_of h → ShareOutline g h
same-outline g h same = record { forgotten = ap (λ (o : Outline). o.0) same; links = ap (λ (o : Outline). o.1) same; names = ap (λ (o : Outline). o.2) same }

outline-seen : (going : Going) → (read_outline (spell_outline going)).0 ≡ outline_of going
outline-seen going =
    ap (λ (bytes : List ℕ). (read_outline bytes).0) (sym (append-nil (spell_outline going)))
    ∙ ap (λ (p : Outline × List ℕ). p.0) (outline-back going [])

pub outlines-tell : (g h : Going) → spell_outline g ≡ spell_outline h → ShareOutline g h
outlines-tell g h same =
    same-outline g h (sym (outline-seen g) ∙ ap (λ (bytes : List ℕ). (read_outline bytes).0) same ∙ outline-seen h)

-- ---- keys

read_front : Reads (ℕ × Option Message)
read_front = do
  queue ← read_queue
  done (front_at queue)

first-back : (first : Option Message) → first_message (option_to_list first) ≡ first
first-back None = refl
first-back (Some message) = refl

front-back : (front : ℕ × Option Message) (rest : List ℕ) → read_front (spell_front front ++ rest) ≡ (front, rest)
unfolding read_front spell_front
front-back front rest =
    ap (λ (p : Queue × List ℕ). (front_at p.0, p.1)) (queue_back (record { port = front.0; messages = option_to_list front.1 }) rest)
    ∙ ap (λ (first : Option Message). ((front.0, first), rest)) (first-back front.1)

abbrev Seen : Type 0
Seen = Outline × ℕ × Verdict × Data × List (ℕ × Option Message)

abbrev seen_of : Going → ℕ → Component → Seen
seen_of going at component = (outline_of going, at, component.verdict, component.own, map front_at component.queues)

read_key : Reads Seen
read_key = do
  outline ← read_outline
  at ← read_long
  own ← read_own
  fronts ← read_list read_front
  done (outline, at, own.0, own.1, fronts)

key-back : (going : Going) (at : ℕ) (component : Component) (rest : List ℕ) → read_key (spell_key going at component ++ rest) ≡ (seen_of going at component, rest)
unfolding read_key spell_key
key-back going at component rest = simp (append_assoc, outline-back, read-long-back, own_back, read-list-back spell_front read_front front-back)

key-seen : (going : Going) (at : ℕ) (component : Component) → (read_key (spell_key going at component)).0 ≡ seen_of going at component
key-seen going at component =
    ap (λ (bytes : List ℕ). (read_key bytes).0) (sym (append-nil (spell_key going at component)))
    ∙ ap (λ (p : Seen × List ℕ). p.0) (key-back going at component [])

pub keys-tell : (g h : Going) (at i : ℕ) (c d : Component) → spell_key g at c ≡ spell_key h i d → SeeTheSame g h at i c d
keys-tell g h at i c d same =
    let seen = sym (key-seen g at c) ∙ ap (λ (bytes : List ℕ). (read_key bytes).0) same ∙ key-seen h i d in
    record {
      outline = same-outline g h (ap (λ (s : Seen). s.0) seen);
      place = ap (λ (s : Seen). s.1) seen;
      verdict = ap (λ (s : Seen). s.2) seen;
      own = ap (λ (s : Seen). s.3) seen;
      fronts = ap (λ (s : Seen). s.4) seen;
    }
