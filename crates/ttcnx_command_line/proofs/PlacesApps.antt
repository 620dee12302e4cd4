-- What clap makes of words at a command with its subcommands doesn't depend on where the names of a list lie in memory.
use Rattle.std.proofs.Common.{◌≡◌, ◌∙◌, ◌&&◌, Bool, cond, true, false, refl, sym, ap, ap₂, List, [], ◌∷◌, map, Option, Some, None, is_some, option_map}
use Rattle.std.specs.List.{find}
use Rattle.std.specs.Option.{option_map_or}
use Rattle.clap.specs.Kinds.{Kinds}
use Rattle.clap.specs.Walk.{Held, Names, Text, Walk, answers_to, nothing_held, stop_after, texts, walk, walk_from}
use Rattle.clap.specs.Simple.{App, Shape, built, entered, label_of, names_of, rows_at, subcommand_of}
use Rattle.clap.specs.Faults.{fault_of, built_fault, entered_fault, level_fault}
use Rattle.clap.specs.Takes.{takes, built_takes, entered_passes, level_passes}
use Rattle.ttcnx_command_line.specs.App.{Lists, app_with, format_words, lint_words, lists_of, ttcnx_app, verdict_words}
use Rattle.ttcnx_command_line.specs.internal.Named.{HasWords}
use Rattle.ttcnx_command_line.proofs.Places.{moved_shape, rows-same, walks-same}
use Rattle.ttcnx_command_line.proofs.PlacesFaults.{level-fault-same}
use Rattle.ttcnx_command_line.proofs.PlacesTakes.{level-passes-same}

abbrev pub moved_app : App → App
moved_app a = record { top = moved_shape a.top; subs = map moved_shape a.subs }

names-same : (subs : List Shape) → map label_of (map moved_shape subs) ≡ map label_of subs
names-same [] = refl
names-same (s ∷ rest) = ap (λ x. label_of s ∷ x) (names-same rest)

find-shape : (name : Text) (subs : List Shape) → find (λ s. answers_to name (label_of s)) (map moved_shape subs)
    ≡ option_map moved_shape (find (λ s. answers_to name (label_of s)) subs)
find-shape name [] = refl
find-shape name (s ∷ rest) = ap (λ o. cond (answers_to name (label_of s)) (Some (moved_shape s)) o) (find-shape name rest) ∙ go (answers_to name (label_of s))
  where
    go : (b : Bool) → cond b (Some (moved_shape s)) (option_map moved_shape (find (λ x. answers_to name (label_of x)) rest))
        ≡ option_map moved_shape (cond b (Some s) (find (λ x. answers_to name (label_of x)) rest))
    go true = refl
    go false = refl

rows-at-same : (o : Option Shape) (words : List Text) → option_map (λ s. rows_at s words) (option_map moved_shape o) ≡ option_map (λ s. rows_at s words) o
rows-at-same None words = refl
rows-at-same (Some s) words = ap (λ rows. Some (s.name, rows)) (rows-same s.rules [] words)

entered-same : (a : App) (stop : Option (Text × List Text)) → entered (moved_app a) stop ≡ entered a stop
entered-same a None = refl
entered-same a (Some p) = ap (option_map (λ s. rows_at s p.1)) (find-shape p.0 a.subs) ∙ rows-at-same (find (λ s. answers_to p.0 (label_of s)) a.subs) p.1

fault-at-same : (o : Option Shape) (words : List Text) → option_map_or (λ s. level_fault s [] nothing_held words false []) (option_map moved_shape o) []
    ≡ option_map_or (λ s. level_fault s [] nothing_held words false []) o []
fault-at-same None words = refl
fault-at-same (Some s) words = level-fault-same s [] nothing_held words false []

entered-fault-same : (a : App) (stop : Option (Text × List Text)) → entered_fault (moved_app a) stop ≡ entered_fault a stop
entered-fault-same a None = refl
entered-fault-same a (Some p) = ap (λ o. option_map_or (λ s. level_fault s [] nothing_held p.1 false []) o []) (find-shape p.0 a.subs)
    ∙ fault-at-same (find (λ s. answers_to p.0 (label_of s)) a.subs) p.1

passes-at-same : (o : Option Shape) (words : List Text) → option_map_or (λ s. level_passes s [] nothing_held words false) (option_map moved_shape o) true
    ≡ option_map_or (λ s. level_passes s [] nothing_held words false) o true
passes-at-same None words = refl
passes-at-same (Some s) words = level-passes-same s [] nothing_held words false

entered-passes-same : (a : App) (stop : Option (Text × List Text)) → entered_passes (moved_app a) stop ≡ entered_passes a stop
entered-passes-same a None = refl
entered-passes-same a (Some p) = ap (λ o. option_map_or (λ s. level_passes s [] nothing_held p.1 false) o true) (find-shape p.0 a.subs)
    ∙ passes-at-same (find (λ s. answers_to p.0 (label_of s)) a.subs) p.1

stop-same : (a : App) (h : Held) (words : List Text) → (walk (moved_app a).top.rules (names_of (moved_app a)) h words).stopped ≡ (walk a.top.rules (names_of a) h words).stopped
stop-same a h words = ap (λ (w : Walk). w.stopped) (walks-same a.top.rules (names_of (moved_app a)) (walk_from h) words
    ∙ ap (λ names. walk a.top.rules names h words) (names-same a.subs))

pub subcommand-same : (a : App) (words : List Text)
    → entered (moved_app a) (stop_after (moved_app a).top.rules (names_of (moved_app a)) words) ≡ entered a (stop_after a.top.rules (names_of a) words)
subcommand-same a words = ap (entered (moved_app a)) (stop-same a nothing_held words) ∙ entered-same a (stop_after a.top.rules (names_of a) words)

abbrev fault_from : Held → List Text → App → Option (Text × List Text) → Names → Kinds
fault_from h words b stop names = level_fault b.top names h words (is_some (entered b stop)) (entered_fault b stop)

pub fault-same : (a : App) (h : Held) (words : List Text) → built_fault (moved_app a) h words ≡ built_fault a h words
fault-same a h words = ap₂ (λ stop names. fault_from h words (moved_app a) stop names) (stop-same a h words) (names-same a.subs) ∙ go (walk a.top.rules (names_of a) h words).stopped
  where
    go : (stop : Option (Text × List Text)) → fault_from h words (moved_app a) stop (names_of a) ≡ fault_from h words a stop (names_of a)
    go stop = ap₂ (λ entry below. level_fault (moved_app a).top (names_of a) h words (is_some entry) below) (entered-same a stop) (entered-fault-same a stop)
        ∙ level-fault-same a.top (names_of a) h words (is_some (entered a stop)) (entered_fault a stop)

abbrev takes_from : Held → List Text → App → Option (Text × List Text) → Names → Bool
takes_from h words b stop names = entered_passes b stop && level_passes b.top names h words (is_some (entered b stop))

pub takes-same : (a : App) (h : Held) (words : List Text) → built_takes (moved_app a) h words ≡ built_takes a h words
takes-same a h words = ap₂ (λ stop names. takes_from h words (moved_app a) stop names) (stop-same a h words) (names-same a.subs) ∙ go (walk a.top.rules (names_of a) h words).stopped
  where
    go : (stop : Option (Text × List Text)) → takes_from h words (moved_app a) stop (names_of a) ≡ takes_from h words a stop (names_of a)
    go stop = ap₂ (λ below entry. below && level_passes (moved_app a).top (names_of a) h words (is_some entry)) (entered-passes-same a stop) (entered-same a stop)
        ∙ ap (λ x. entered_passes a stop && x) (level-passes-same a.top (names_of a) h words (is_some (entered a stop)))

-- ---- the commands of `ttcnx`

-- the command stands for `ttcnx`, with the lists of names at some places
abbrev pub IsTtcnx : App → Type 0
IsTtcnx a = (lists : Lists) × HasWords lists × (a ≡ app_with lists)

lists-same : (lists : Lists) → HasWords lists → lists_of format_words lint_words verdict_words
    ≡ lists_of (texts lists.formats.now) (texts lists.lint_formats.now) (texts lists.verdicts.now)
lists-same lists h = ap (λ words. lists_of words lint_words verdict_words) (sym h.formats)
    ∙ ap (λ words. lists_of (texts lists.formats.now) words verdict_words) (sym h.lint_formats)
    ∙ ap (λ words. lists_of (texts lists.formats.now) (texts lists.lint_formats.now) words) (sym h.verdicts)

moved-built : (lists : Lists) → HasWords lists → built ttcnx_app ≡ moved_app (built (app_with lists))
moved-built lists words = ap (λ l. built (app_with l)) (lists-same lists words)

pub same-faults : (a : App) (words : List Text) → IsTtcnx a → fault_of ttcnx_app words ≡ fault_of a words
same-faults a words is = ap (λ b. built_fault b nothing_held words) (moved-built is.0 is.1) ∙ fault-same (built (app_with is.0)) nothing_held words
    ∙ ap (λ b. fault_of b words) (sym is.2)

pub same-subcommand : (a : App) (words : List Text) → IsTtcnx a → subcommand_of ttcnx_app words ≡ subcommand_of a words
same-subcommand a words is = ap (λ (b : App). entered b (stop_after b.top.rules (names_of b) words)) (moved-built is.0 is.1)
    ∙ subcommand-same (built (app_with is.0)) words ∙ ap (λ b. subcommand_of b words) (sym is.2)

pub same-takes : (a : App) (words : List Text) → IsTtcnx a → takes ttcnx_app words ≡ takes a words
same-takes a words is = ap (λ b. built_takes b nothing_held words) (moved-built is.0 is.1) ∙ takes-same (built (app_with is.0)) nothing_held words
    ∙ ap (λ b. takes b words) (sym is.2)
