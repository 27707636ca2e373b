-- The words that a history file has, by their texts (docs/HISTORY-FILE.md).
use Rattle.std.specs.Prelude.{ℕ, List, [], ◌∷◌, Option, find}
use Rattle.std.specs.Str.{str_eq_ignore_ascii_case}
use Prim.Native.Char.{code}
use Prim.Native.String.{String, [], ◌∷◌}
use Rattle.line_tokens.specs.declared.words.Word.{Word}
use Rattle.line_tokens.specs.declared.words.Word.TheVariants.{Open, Billing, Control, Neighbour, Failure, Admission, Denial, Permission, Close, Basis}
use Rattle.line_tokens.specs.declared.words.Word.TheVariants.{Power, Place, Amperes, Volts, Cosine, Phases, Currents, Hours, Volume, Week}
use Rattle.line_tokens.specs.declared.words.Word.TheVariants.{None, Interval, Integral, Agreed, Shared, Cable, Fault, Loss, Verification, Removal}

-- a text by its bytes
abbrev pub bytes : String → List ℕ
bytes [] = []
bytes (c ∷ s) = code c ∷ bytes s

-- the text of a word, in small letters
unfoldable pub text_of : Word → List ℕ
text_of Open = bytes "open"
text_of Billing = bytes "billing"
text_of Control = bytes "control"
text_of Neighbour = bytes "neighbour"
text_of Failure = bytes "failure"
text_of Admission = bytes "admission"
text_of Denial = bytes "denial"
text_of Permission = bytes "permission"
text_of Close = bytes "close"
text_of Basis = bytes "basis"
text_of Power = bytes "power"
text_of Place = bytes "place"
text_of Amperes = bytes "amperes"
text_of Volts = bytes "volts"
text_of Cosine = bytes "cosine"
text_of Phases = bytes "phases"
text_of Currents = bytes "currents"
text_of Hours = bytes "hours"
text_of Volume = bytes "volume"
text_of Week = bytes "week"
text_of None = bytes "none"
text_of Interval = bytes "interval"
text_of Integral = bytes "integral"
text_of Agreed = bytes "agreed"
text_of Shared = bytes "shared"
text_of Cable = bytes "cable"
text_of Fault = bytes "fault"
text_of Loss = bytes "loss"
text_of Verification = bytes "verification"
text_of Removal = bytes "removal"

abbrev pub words : List Word
words =
    Open ∷ Billing ∷ Control ∷ Neighbour ∷ Failure ∷ Admission ∷ Denial ∷ Permission ∷ Close ∷ Basis ∷ Power ∷ Place ∷ Amperes ∷ Volts ∷ Cosine
    ∷ Phases ∷ Currents ∷ Hours ∷ Volume ∷ Week ∷ None ∷ Interval ∷ Integral ∷ Agreed ∷ Shared ∷ Cable ∷ Fault ∷ Loss ∷ Verification ∷ Removal
    ∷ []

-- THE WORD that some letters are, capital or small; letters that are no word of a history file are none
unfoldable pub word_of : List ℕ → Option Word
word_of letters = find (λ word. str_eq_ignore_ascii_case letters (text_of word)) words
