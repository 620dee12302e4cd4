-- The texts of components' names, of labels, and of labels of fine runs.
use Rattle.std.specs.Prelude.{ℕ, List, ◌++◌, codes}
use Rattle.std.specs.Char.{encode_utf8}
use Rattle.std.specs.Fmt.{decimal}
use Rattle.std.specs.List.{flat_map}
use Rattle.step_labels.specs.declared.fine.FineLabel.{FineLabel}
use Rattle.step_labels.specs.declared.fine.FineLabel.TheVariants.{Snap, Choose, Plain}
use Rattle.step_labels.specs.declared.label.Label.{Label}
use Rattle.step_labels.specs.declared.label.Label.TheVariants.{Delivery, Expiry, Statement}

-- the name of a timer or of a system port: each byte is written as the character of its code, so those below 128 stay as they are
abbrev pub name_text : List ℕ → List ℕ
name_text name = flat_map encode_utf8 name

-- one number of a path, behind a point
abbrev pub number_text : ℕ → List ℕ
number_text number = codes "." ++ decimal number

-- the name of the component with these numbers: `mtc`, `mtc.1.2`
abbrev pub path_text : List ℕ → List ℕ
path_text numbers = codes "mtc" ++ flat_map number_text numbers

-- what an expiry adds to its component's name: `/0.t`
abbrev pub expiry_text : ℕ → List ℕ → List ℕ
expiry_text frame timer = codes "/" ++ decimal frame ++ codes "." ++ name_text timer

-- a delivery, by the name of its system port: `system.q`
abbrev pub delivery_text : List ℕ → List ℕ
delivery_text system_port = codes "system." ++ name_text system_port

-- a label: its component's name, and the frame and the timer of an expiry; or a delivery
abbrev pub label_text : Label → List ℕ
label_text (Statement path) = path_text path.numbers
label_text (Expiry path frame timer) = path_text path.numbers ++ expiry_text frame timer
label_text (Delivery system_port) = delivery_text system_port

-- a label of a fine run: `snap mtc.1`, `choose mtc.1`, or a label
abbrev pub fine_text : FineLabel → List ℕ
fine_text (Snap path) = codes "snap " ++ path_text path.numbers
fine_text (Choose path) = codes "choose " ++ path_text path.numbers
fine_text (Plain label) = label_text label
