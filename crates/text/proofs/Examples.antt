-- Room at its edges, by computation. Assumes nothing.
use mathlib.Core.Bool.{true, false}
use mathlib.Core.Path.{◌≡◌, refl}
use mathlib.Core.List.{[], ◌∷◌}
use Rattle.numbers.specs.Lists.{zeros}
use Rattle.text.specs.Places.{has_room_at}
use Rattle.text.specs.Text.{has_room, with_text}

-- a text has to end with the room at the latest
rooms :
    (has_room 2 (1 ∷ 2 ∷ []) [] ≡ true)
    × (has_room 1 (1 ∷ 2 ∷ []) [] ≡ false)
    × (has_room 5 (1 ∷ 2 ∷ []) (zeros 3) ≡ true)
    × (has_room 5 (1 ∷ 2 ∷ []) (zeros 4) ≡ false)
    × (has_room 5 (1 ∷ 2 ∷ []) (zeros 5) ≡ false)
    × (has_room 5 [] (zeros 5) ≡ true)
    × (has_room 5 [] (zeros 6) ≡ false)
    × (has_room 0 [] [] ≡ true)
    × (has_room 5 (1 ∷ []) (zeros 7) ≡ false)
rooms = (refl, refl, refl, refl, refl, refl, refl, refl, refl)

-- the same at a place of a buffer, to which a place past its end does not belong
rooms_at :
    (has_room_at (1 ∷ 2 ∷ []) 0 (zeros 2) ≡ true)
    × (has_room_at (1 ∷ 2 ∷ []) 0 (zeros 1) ≡ false)
    × (has_room_at (1 ∷ 2 ∷ []) 3 (zeros 5) ≡ true)
    × (has_room_at (1 ∷ 2 ∷ []) 4 (zeros 5) ≡ false)
    × (has_room_at (1 ∷ 2 ∷ []) 5 (zeros 5) ≡ false)
    × (has_room_at [] 5 (zeros 5) ≡ true)
    × (has_room_at [] 6 (zeros 5) ≡ false)
    × (has_room_at [] 0 [] ≡ true)
    × (has_room_at (1 ∷ []) 7 (zeros 5) ≡ false)
rooms_at = (refl, refl, refl, refl, refl, refl, refl, refl, refl)

-- a text without room is left out whole
puts :
    (with_text 3 (1 ∷ 2 ∷ []) (7 ∷ []) ≡ 7 ∷ 1 ∷ 2 ∷ [])
    × (with_text 2 (1 ∷ 2 ∷ []) (7 ∷ []) ≡ 7 ∷ [])
    × (with_text 0 (1 ∷ []) [] ≡ [])
puts = (refl, refl, refl)
