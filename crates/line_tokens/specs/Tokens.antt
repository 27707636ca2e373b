-- The tokens of a line of a history file (docs/HISTORY-FILE.md, 'Words of a line'). A line is the list of its bytes.
use Rattle.std.specs.Prelude.{ℕ, ◌+◌, ◌*◌, ◌%◌, min, Bool, true, false, cond, ◌&&◌, ◌||◌, List, eqb, leb, ltb, length, drop, get_or, fold}
use Rattle.std.specs.List.{take_while, prefix_len}
use Rattle.line_tokens.specs.declared.Class.{Class}
use Rattle.line_tokens.specs.declared.Class.TheVariants.{Blank, Digit, Letter, End, Left, Right, Dash, Other, Foreign}
use Rattle.line_tokens.specs.declared.Kind.{Kind}
use Rattle.line_tokens.specs.declared.Kind.TheVariants as kind
use Rattle.line_tokens.specs.declared.Token.{Token}
use Rattle.line_tokens.specs.Words.{word_of}

-- byte b is one of a to c
abbrev pub in_range : ℕ → ℕ → ℕ → Bool
in_range a c b = leb a b && leb b c

-- THE CLASS OF A BYTE
unfoldable pub class_of : ℕ → Class
class_of b =
    cond (eqb b 32 || eqb b 9 || eqb b 13) Blank
    (cond (in_range 48 57 b) Digit
    (cond (in_range 97 122 b || in_range 65 90 b) Letter
    (cond (eqb b 35) End
    (cond (eqb b 40) Left
    (cond (eqb b 41) Right
    (cond (eqb b 45) Dash
    (cond (in_range 33 126 b) Other Foreign)))))))

abbrev pub same_class : Class → Class → Bool
same_class Blank Blank = true
same_class Digit Digit = true
same_class Letter Letter = true
same_class End End = true
same_class Left Left = true
same_class Right Right = true
same_class Dash Dash = true
same_class Other Other = true
same_class Foreign Foreign = true
same_class _ _ = false

-- whether a byte is of a class
unfoldable pub is_of : Class → ℕ → Bool
is_of class b = same_class (class_of b) class

-- the bytes of a class that stand one behind the other from a place on
unfoldable pub run_from : Class → List ℕ → ℕ → List ℕ
run_from class line from = take_while (is_of class) (drop from line)

-- the first place from `from` on whose byte is not of a class
unfoldable pub span_from : Class → List ℕ → ℕ → ℕ
span_from class line from = from + length (run_from class line from)

-- the number of a class
unfoldable pub class_number : Class → ℕ
class_number Blank = 0
class_number Digit = 1
class_number Letter = 2
class_number End = 3
class_number Left = 4
class_number Right = 5
class_number Dash = 6
class_number Other = 7
class_number Foreign = 8

-- whether a byte is of the class with a number
unfoldable pub is_of_number : ℕ → ℕ → Bool
is_of_number class b = eqb (class_number (class_of b)) class

-- the first place from `from` on whose byte is not of the class with this number: `from` itself for a number that no class has
unfoldable pub span_by : ℕ → List ℕ → ℕ → ℕ
span_by class line from = from + prefix_len (is_of_number class) (drop from line)

-- a byte; past the end of the line it is as if # stood there
unfoldable pub byte_at : List ℕ → ℕ → ℕ
byte_at line i = get_or line i 35

unfoldable pub place_behind : List ℕ → ℕ → ℕ
place_behind line i = cond (ltb i (length line)) (i + 1) i

-- THE VALUE of digits in base 10, the low 4 bits of each. It stops growing where 18 digits have no say
unfoldable pub value_of : List ℕ → ℕ
value_of digits = fold (λ v b. min v 500000000000000000 * 10 + b % 16) 0 digits

-- a number, or a count where * stands directly behind it; of more than 18 digits it is too long
unfoldable pub number_token : List ℕ → ℕ → Token
number_token line from =
    let digits : List ℕ = run_from Digit line from in
    let to : ℕ = from + length digits in
    let star : Bool = eqb (byte_at line to) 42 in
    record {
      kind = cond (ltb 18 (length digits)) kind.Long (cond star (kind.Count (value_of digits)) (kind.Number (value_of digits)));
      from = from;
      to = cond star (place_behind line to) to;
    }

-- a word, which is known or not
unfoldable pub word_token : List ℕ → ℕ → Token
word_token line from =
    let letters : List ℕ = run_from Letter line from in
    record { kind = kind.Word (word_of letters); from = from; to = from + length letters }

-- what a byte is that is a token alone
unfoldable pub single_kind : Class → Kind
single_kind End = kind.End
single_kind Left = kind.Left
single_kind Right = kind.Right
single_kind Dash = kind.Dash
single_kind Foreign = kind.Foreign
single_kind _ = kind.Other

-- what starts at a place with a byte of a class
unfoldable pub token_by : Class → List ℕ → ℕ → Token
token_by Digit line from = number_token line from
token_by Letter line from = word_token line from
token_by class line from = record { kind = single_kind class; from = from; to = place_behind line from }

-- what starts at a place
unfoldable pub token_from : List ℕ → ℕ → Token
token_from line from = token_by (class_of (byte_at line from)) line from

-- THE TOKEN at a place, behind blanks
unfoldable pub token_at : List ℕ → ℕ → Token
token_at line at = token_from line (span_from Blank line at)
