-- Bytes, runs, values, words and tokens of lines, by computation. Assumes nothing.
use Prim.Native.Nat.{ℕ}
use mathlib.Core.Path.{◌≡◌, refl}
use mathlib.Core.List.{[], ◌∷◌, map}
use Rattle.std.specs.Prelude.{Some, None}
use Rattle.line_tokens.specs.declared.Class.TheVariants.{Blank, Digit, Letter, End, Left, Right, Dash, Other, Foreign}
use Rattle.line_tokens.specs.declared.Kind.{Kind}
use Rattle.line_tokens.specs.declared.Kind.TheVariants as kind
use Rattle.line_tokens.specs.declared.Token.{Token}
use Rattle.line_tokens.specs.declared.words.Word.TheVariants as word
use Rattle.line_tokens.specs.Words.{bytes, text_of, word_of}
use Rattle.line_tokens.specs.Tokens.{class_of, is_of, run_from, span_from, byte_at, place_behind, value_of, single_kind, number_token, word_token}
use Rattle.line_tokens.specs.Tokens.{token_by, token_from, token_at, class_number, is_of_number, span_by}

-- the edges of each class of byte: blanks among those that are no text
blanks :
    (class_of 0 ≡ Foreign)
    × (class_of 8 ≡ Foreign)
    × (class_of 9 ≡ Blank)
    × (class_of 10 ≡ Foreign)
    × (class_of 12 ≡ Foreign)
    × (class_of 13 ≡ Blank)
    × (class_of 14 ≡ Foreign)
    × (class_of 31 ≡ Foreign)
    × (class_of 32 ≡ Blank)
unfolding class_of
blanks = (refl, refl, refl, refl, refl, refl, refl, refl, refl)

-- marks and digits
marks :
    (class_of 33 ≡ Other)
    × (class_of 34 ≡ Other)
    × (class_of 35 ≡ End)
    × (class_of 36 ≡ Other)
    × (class_of 39 ≡ Other)
    × (class_of 40 ≡ Left)
    × (class_of 41 ≡ Right)
    × (class_of 42 ≡ Other)
    × (class_of 44 ≡ Other)
    × (class_of 45 ≡ Dash)
    × (class_of 46 ≡ Other)
    × (class_of 47 ≡ Other)
    × (class_of 48 ≡ Digit)
    × (class_of 57 ≡ Digit)
    × (class_of 58 ≡ Other)
    × (class_of 64 ≡ Other)
unfolding class_of
marks = (refl, refl, refl, refl, refl, refl, refl, refl, refl, refl, refl, refl, refl, refl, refl, refl)

-- letters, and the last bytes of a text
letters :
    (class_of 65 ≡ Letter)
    × (class_of 90 ≡ Letter)
    × (class_of 91 ≡ Other)
    × (class_of 96 ≡ Other)
    × (class_of 97 ≡ Letter)
    × (class_of 122 ≡ Letter)
    × (class_of 123 ≡ Other)
    × (class_of 126 ≡ Other)
    × (class_of 127 ≡ Foreign)
    × (class_of 128 ≡ Foreign)
    × (class_of 255 ≡ Foreign)
unfolding class_of
letters = (refl, refl, refl, refl, refl, refl, refl, refl, refl, refl, refl)

-- a run ends at a byte of another class or with the line
spans :
    (span_from Blank (bytes "   a ") 0 ≡ 3)
    × (span_from Blank (bytes "   a ") 3 ≡ 3)
    × (span_from Blank (bytes "   a ") 4 ≡ 5)
    × (span_from Blank (bytes "   a ") 9 ≡ 9)
    × (span_from Blank (32 ∷ 9 ∷ 13 ∷ 10 ∷ []) 0 ≡ 3)
    × (span_from Digit (bytes "x2023-02") 1 ≡ 5)
    × (span_from Digit (bytes "x2023-02") 0 ≡ 0)
    × (span_from Digit (bytes "x2023-02") 6 ≡ 8)
    × (span_from Letter (bytes "aZ9") 0 ≡ 2)
    × (span_from Letter [] 0 ≡ 0)
unfolding span_from run_from is_of class_of
spans = (refl, refl, refl, refl, refl, refl, refl, refl, refl, refl)

-- the classes by their numbers
numbered :
    map class_number (Blank ∷ Digit ∷ Letter ∷ End ∷ Left ∷ Right ∷ Dash ∷ Other ∷ Foreign ∷ [])
    ≡ 0 ∷ 1 ∷ 2 ∷ 3 ∷ 4 ∷ 5 ∷ 6 ∷ 7 ∷ 8 ∷ []
unfolding class_number
numbered = refl

-- a run by the number of its class; no byte is of a number that no class has
numbered_spans :
    (span_by 0 (bytes "   a ") 0 ≡ 3)
    × (span_by 0 (bytes "   a ") 9 ≡ 9)
    × (span_by 1 (bytes "x2023-02") 1 ≡ 5)
    × (span_by 2 (bytes "aZ9") 0 ≡ 2)
    × (span_by 3 (bytes "##)") 0 ≡ 2)
    × (span_by 4 (bytes "(()") 0 ≡ 2)
    × (span_by 5 (bytes "))(") 0 ≡ 2)
    × (span_by 6 (bytes "--5") 0 ≡ 2)
    × (span_by 7 (bytes "!~#") 0 ≡ 2)
    × (span_by 8 (10 ∷ 127 ∷ 32 ∷ []) 0 ≡ 2)
    × (span_by 9 (bytes "   a ") 1 ≡ 1)
    × (span_by 9 (10 ∷ 127 ∷ 32 ∷ []) 0 ≡ 0)
unfolding span_by is_of_number class_number class_of
numbered_spans = (refl, refl, refl, refl, refl, refl, refl, refl, refl, refl, refl, refl)

-- digits to 18 of them
values :
    (value_of (bytes "2023") ≡ 2023)
    × (value_of (bytes "2") ≡ 2)
    × (value_of [] ≡ 0)
    × (value_of (bytes "0000000000000042") ≡ 42)
    × (value_of (bytes "0123456789") ≡ 123456789)
    × (value_of (bytes "999999999999999999") ≡ 999999999999999999)
    × (value_of (bytes "500000000000000001") ≡ 500000000000000001)
unfolding value_of
values = (refl, refl, refl, refl, refl, refl, refl)

-- letters are a word that is known where they are all of it and nothing more, capital or small
known :
    (word_of (bytes "open") ≡ Some word.Open)
    × (word_of (bytes "OPEN") ≡ Some word.Open)
    × (word_of (bytes "oPeN") ≡ Some word.Open)
    × (word_of (bytes "verification") ≡ Some word.Verification)
    × (word_of (bytes "VERIFICATION") ≡ Some word.Verification)
    × (word_of (bytes "a") ≡ None)
    × (word_of (bytes "z") ≡ None)
    × (word_of (bytes "Z") ≡ None)
    × (word_of (bytes "ope") ≡ None)
    × (word_of (bytes "opens") ≡ None)
    × (word_of (bytes "verificatio") ≡ None)
    × (word_of (bytes "verifications") ≡ None)
    × (word_of [] ≡ None)
unfolding word_of text_of
known = (refl, refl, refl, refl, refl, refl, refl, refl, refl, refl, refl, refl, refl)

abbrev token : Kind → ℕ → ℕ → Token
token k from to = record { kind = k; from = from; to = to }

unfoldable token_definitions : Unit {0}
unfolding token_at token_from token_by single_kind number_token word_token value_of word_of text_of place_behind byte_at span_from run_from is_of class_of
token_definitions = tt

-- a number; a count, where the * stands directly behind it; 18 digits are a number or count, 19 are too long
numbers :
    (token_at (bytes "  2023-02") 0 ≡ token (kind.Number 2023) 2 6)
    × (token_at (bytes "  2023-02") 7 ≡ token (kind.Number 2) 7 9)
    × (token_at (bytes "007 ") 0 ≡ token (kind.Number 7) 0 3)
    × (token_at (bytes "31*(") 0 ≡ token (kind.Count 31) 0 3)
    × (token_at (bytes " 0*5") 0 ≡ token (kind.Count 0) 1 3)
    × (token_at (bytes "31 *(") 0 ≡ token (kind.Number 31) 0 2)
    × (token_at (bytes "5*") 0 ≡ token (kind.Count 5) 0 2)
    × (token_at (bytes "5a") 0 ≡ token (kind.Number 5) 0 1)
    × (token_at (bytes "999999999999999999") 0 ≡ token (kind.Number 999999999999999999) 0 18)
    × (token_at (bytes "000000000000000001*") 0 ≡ token (kind.Count 1) 0 19)
    × (token_at (bytes " 1000000000000000000 ") 0 ≡ token kind.Long 1 20)
    × (token_at (bytes "0000000000000000001") 0 ≡ token kind.Long 0 19)
    × (token_at (bytes "0000000000000000001*") 0 ≡ token kind.Long 0 20)
unfolding token_definitions
numbers = (refl, refl, refl, refl, refl, refl, refl, refl, refl, refl, refl, refl, refl)

-- a word; of 13 letters it is none that is known
words :
    (token_at (bytes " open 2023") 0 ≡ token (kind.Word (Some word.Open)) 1 5)
    × (token_at (bytes "Open2023") 0 ≡ token (kind.Word (Some word.Open)) 0 4)
    × (token_at (bytes "verification") 0 ≡ token (kind.Word (Some word.Verification)) 0 12)
    × (token_at (bytes "verifications") 0 ≡ token (kind.Word None) 0 13)
    × (token_at (bytes "  abcdefghijklmnop  ") 0 ≡ token (kind.Word None) 2 18)
unfolding token_definitions
words = (refl, refl, refl, refl, refl)

-- marks, the end at # and behind the last byte, a byte alone, and a foreign one
others :
    (token_at (bytes " (3") 0 ≡ token kind.Left 1 2)
    × (token_at (bytes ")") 0 ≡ token kind.Right 0 1)
    × (token_at (bytes "2023 -02") 4 ≡ token kind.Dash 5 6)
    × (token_at (bytes "5 # six") 1 ≡ token kind.End 2 3)
    × (token_at (bytes "#") 0 ≡ token kind.End 0 1)
    × (token_at (bytes "5  ") 1 ≡ token kind.End 3 3)
    × (token_at [] 0 ≡ token kind.End 0 0)
    × (token_at (bytes "5") 1 ≡ token kind.End 1 1)
    × (token_at (bytes " *5") 0 ≡ token kind.Other 1 2)
    × (token_at (bytes "!!") 0 ≡ token kind.Other 0 1)
    × (token_at (bytes "~") 0 ≡ token kind.Other 0 1)
    × (token_at (bytes "2.5") 1 ≡ token kind.Other 1 2)
    × (token_at (32 ∷ 127 ∷ []) 0 ≡ token kind.Foreign 1 2)
    × (token_at (195 ∷ 164 ∷ []) 0 ≡ token kind.Foreign 0 1)
    × (token_at (0 ∷ []) 0 ≡ token kind.Foreign 0 1)
    × (token_at (10 ∷ []) 0 ≡ token kind.Foreign 0 1)
unfolding token_definitions
others = (refl, refl, refl, refl, refl, refl, refl, refl, refl, refl, refl, refl, refl, refl, refl, refl)
