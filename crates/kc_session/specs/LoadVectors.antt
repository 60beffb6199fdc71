-- A generated load, worked out by hand.
use Rattle.std.specs.Prelude.{ℕ, zero, suc, ◌≡◌, List, [], ◌∷◌, codes}
use Rattle.kc_session.specs.Generated.{next_state, generated}

-- the next `count` states after s
abbrev pub states_after : ℕ → ℕ → List ℕ
states_after s zero = []
states_after s (suc count) = next_state s ∷ states_after (next_state s) count

-- the first nine states from the seed 0 on
abbrev pub StatesFromZero : Type 0
StatesFromZero = states_after 0 9 ≡ 0x3C6EF35F ∷ 0x47502932 ∷ 0xD1CCF6E9 ∷ 0xAAF95334 ∷ 0x6252E503 ∷ 0x9F2EC686 ∷ 0x57FE6C2D ∷ 0xA3D95FA8 ∷ 0x81FDBEE7 ∷ []

-- with five vertices these states make three items
abbrev pub LoadOfThreeItems : Type 0
LoadOfThreeItems = generated 0 5 1 3 ≡ codes "kcore 1\nvertices 5\nask 4 0 1 2 3 4\nask 4 0 1 2 3 4\nbatch\n+ 3 2\n+ 2 4\n+ 4 0\nend\n"
