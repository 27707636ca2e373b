-- What a value displays is put in pieces, one behind the other. Assumes nothing.
use mathlib.Core.Path.{◌≡◌, refl, ap, sym, subst, ◌∙◌}
use mathlib.Core.List.{List, [], ◌∷◌, ◌++◌, append-nil, append_assoc}
use Prim.Native.Nat.{ℕ, ◌+◌, ◌-◌, ◌≤◌, min}
use native.Mathlib.Omega.{arith}
use borrow.Author.Tests.{le-leb, lt-leb}
use lib.ListN.{length, take, drop, length-drop}
use lib.Seq.{take-append-add}
use Rattle.std.proofs.Common.{Option, Some, None, inl, inr, length-append, length-take-le}
use Rattle.std.proofs.lemmas.List.{take-append-le}
use Rattle.std.proofs.lemmas.Bool.{cases_lt}
use Rattle.std.specs.List.{FoldsTo, concat}
use Rattle.std.specs.Fmt.{WritesText}
use Rattle.text.specs.Text.{with_text, rest_with, PutInPieces, PutWhole}

-- a piece is put into a room
abbrev Puts : ℕ → List ℕ → List ℕ → List ℕ → Type 0
Puts room written piece next = next ≡ with_text room piece written

-- what no piece changes stays
pub stays : {W A : Type 0} (took : W → List ℕ → W → Type 0) (part : W → A)
    → ((w : W) (piece : List ℕ) (v : W) → took w piece v → part v ≡ part w)
    → (w : W) (pieces : List (List ℕ)) (v : W) → FoldsTo took w pieces v → part v ≡ part w
stays took part same w [] v e = ap part (sym e)
stays took part same w (piece ∷ pieces) v (j, t, f) = stays took part same j pieces v f ∙ same w piece j t

-- pieces that a writer takes into the rest of a room are put into that rest
pub of_rest : {W : Type 0} (took : W → List ℕ → W → Type 0) (rest : W → ℕ × List ℕ)
    → ((w : W) (piece : List ℕ) (v : W) → took w piece v → rest v ≡ rest_with piece (rest w))
    → (w : W) (pieces : List (List ℕ)) (v : W) → FoldsTo took w pieces v
    → FoldsTo (Puts (rest w).0) (rest w).1 pieces (rest v).1
of_rest took rest step w [] v e = ap (λ x. (rest x).1) e
of_rest took rest step w (piece ∷ pieces) v (j, t, f) =
    let s : rest j ≡ rest_with piece (rest w) = step w piece j t in (
      (rest j).1,
      ap (λ (r : ℕ × List ℕ). r.1) s,
      subst (λ n. FoldsTo (Puts n) (rest j).1 pieces (rest v).1) (ap (λ (r : ℕ × List ℕ). r.0) s) (of_rest took rest step j pieces v f),
    )

-- what a writer takes is put into the rest that it was lent, where it still has that rest at its end
pub rest_printed : {W A : Type 0} (took : W → List ℕ → W → Type 0) (rest : W → ℕ × List ℕ) (name : W → A)
    → ((w : W) (piece : List ℕ) (v : W) → took w piece v → (name v ≡ name w) × (rest v ≡ rest_with piece (rest w)))
    → (w v : W) (shown : Option (List ℕ)) (after : List ℕ) → WritesText took w shown v → (name v ≡ name w → after ≡ (rest v).1)
    → PutInPieces (rest w).0 shown (rest w).1 after
rest_printed took rest name step w v None after p lent = tt
rest_printed took rest name step w v (Some text) after p lent = record {
  parts = p.parts;
  calls = rw (lent (stays took name (λ a piece b t. (step a piece b t).0) w p.parts v p.calls))
      (of_rest took rest (λ a piece b t. (step a piece b t).1) w p.parts v p.calls);
  whole = p.whole;
}

-- a text that is put into the rest of a room is put behind what stands in front of it
pub put_rest : (room : ℕ) (front text written : List ℕ) → length front ≤ room
    → front ++ with_text (room - length front) text written ≡ with_text room text (front ++ written)
put_rest room front text written h =
    let long : length (front ++ written) ≡ length front + length written = length-append front written in
    elim (cases_lt (room - length front) (length written + length text)) [
      | inl b ↦ rw (lt-leb _ _ b, lt-leb (length (front ++ written) + length text) room (omega (arith, long, b, h))) refl
      | inr a ↦ rw (le-leb _ _ a, le-leb (length (front ++ written) + length text) room (omega (arith, long, a, h)))
          (sym (append_assoc front written text))
    ]

-- so are pieces
pub behind : (room : ℕ) (front : List ℕ) → length front ≤ room → (w : List ℕ) (pieces : List (List ℕ)) (v : List ℕ)
    → FoldsTo (Puts (room - length front)) w pieces v → FoldsTo (Puts room) (front ++ w) pieces (front ++ v)
behind room front h w [] v e = ap (λ x. front ++ x) e
behind room front h w (piece ∷ pieces) v (j, t, f) =
    (front ++ j, ap (λ x. front ++ x) t ∙ put_rest room front piece w h, behind room front h j pieces v f)

-- a text whose pieces all have room is the last of what is written
pub all_put : (room : ℕ) (w : List ℕ) (pieces : List (List ℕ)) (v : List ℕ) → FoldsTo (Puts room) w pieces v
    → length w + length (concat pieces) ≤ room → v ≡ w ++ concat pieces
all_put room w [] v e h = sym e ∙ sym (append-nil w)
all_put room w (piece ∷ pieces) v (j, t, f) h =
    let n : length (piece ++ concat pieces) ≡ length piece + length (concat pieces) = length-append piece (concat pieces) in
    let s : j ≡ w ++ piece = t ∙ rw (le-leb (length w + length piece) room (omega (arith, n, h))) refl in
    all_put room j pieces v f (rw s (omega (arith, length-append w piece, n, h)))
    ∙ ap (λ x. x ++ concat pieces) s ∙ append_assoc w piece (concat pieces)

-- what is put in pieces is put whole, where there is room for all of it
pub whole : (room : ℕ) (shown : Option (List ℕ)) (before after : List ℕ) → PutInPieces room shown before after → PutWhole room shown before after
whole room None before after p = tt
whole room (Some text) before after p = λ h.
    all_put room before p.parts after p.calls (rw p.whole h) ∙ ap (λ x. before ++ x) p.whole

-- as many bytes as are written of what stands in a room
pub same_taken : {len room count : ℕ} {now bytes : List ℕ} → now ≡ bytes → length now ≡ room → len ≤ length bytes → count ≡ min len room
    → take count now ≡ take len bytes
same_taken {len} {room} {count} {now} {bytes} same e fits least =
    ap (take count) same ∙ ap (λ n. take n bytes) (omega (arith, e, fits, least, ap length same))

-- the bytes of a room up to the last that is written behind its front
taken_behind : (start count end : ℕ) (all now rest front : List ℕ) → take start all ≡ front → length front ≡ start
    → count ≤ length now → end ≡ start + count → take end (take start all ++ (now ++ rest)) ≡ front ++ take count now
taken_behind start count end all now rest front b long fits n =
    ap (λ x. take end (x ++ (now ++ rest))) b
    ∙ ap (λ k. take k (front ++ (now ++ rest))) (omega (arith, n, long))
    ∙ take-append-add front (now ++ rest) count
    ∙ ap (λ x. front ++ x) (take-append-le count now rest fits)

-- what is put in pieces into the last k bytes of a room, of which the first len are written, is put behind what is written
pub printed_behind : (room len start k count end : ℕ) (all now rest front : List ℕ) (shown : Option (List ℕ))
    → take len all ≡ front → len ≤ room → length all ≡ room → start ≡ len → k ≡ room - start
    → length now ≡ length (take k (drop start all)) → count ≤ length (take k (drop start all)) → end ≡ start + count
    → PutInPieces (length (take k (drop start all))) shown [] (take count now)
    → PutInPieces room shown front (take end (take start all ++ (now ++ rest)))
printed_behind room len start k count end all now rest front None b h e s t l fits n p = tt
printed_behind room len start k count end all now rest front (Some text) b h e s t l fits n p =
    let before : take start all ≡ front = ap (λ x. take x all) s ∙ b in
    let long : length front ≡ start = ap length (sym before) ∙ length-take-le start all (omega (arith, h, e, s)) in
    let few : k ≤ length (drop start all) = omega (arith, length-drop start all, t, e) in
    let left : length (take k (drop start all)) ≡ room - length front = length-take-le k (drop start all) few ∙ omega (arith, t, long) in
    let calls : FoldsTo (Puts (room - length front)) [] p.parts (take count now) = rw (sym left) p.calls in
    let after = taken_behind start count end all now rest front before long (omega (arith, l, fits)) n in
    let placed = behind room front (omega (arith, long, s, h)) [] p.parts (take count now) calls in
    record {
      parts = p.parts;
      calls = rw after (subst (λ x. FoldsTo (Puts room) x p.parts (front ++ take count now)) (append-nil front) placed);
      whole = p.whole;
    }
