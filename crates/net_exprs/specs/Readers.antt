-- What readers are made of. A reader tells what stands at the front of a text, and the rest, or that no such part stands there.
use Rattle.std.specs.Prelude.{ℕ, ◌==◌, if◌then◌else◌, List, [], ◌∷◌, Option, Some, None}
use Rattle.net_tree.specs.Spelling.{is_word_part, is_same_text}

-- what is read from the rest behind a part
abbrev pub behind : {A B : Type 0} → Option (A × List ℕ) → (A → List ℕ → Option B) → Option B
behind None go = None
behind (Some part) go = go part.0 part.1

-- what stands behind a text
abbrev pub after : (text : List ℕ) → List ℕ → Option (List ℕ)
after [] s = Some s
after (c ∷ text) [] = None
after (c ∷ text) (d ∷ s) = if d == c then after text s else None

-- what is read behind a text
abbrev pub past : {B : Type 0} → Option (List ℕ) → (List ℕ → Option B) → Option B
past None go = None
past (Some s) go = go s

abbrev pub with_first : ℕ → List ℕ × List ℕ → List ℕ × List ℕ
with_first c parts = (c ∷ parts.0, parts.1)

-- the letters, digits and underscores at the front, and the rest
abbrev pub word_at : List ℕ → List ℕ × List ℕ
word_at [] = ([], [])
word_at (c ∷ s) = if is_word_part c then with_first c (word_at s) else ([], c ∷ s)

-- what a table has for a word
abbrev pub look_up : {A : Type 0} → List ℕ → List (List ℕ × A) → Option A
look_up word [] = None
look_up word (row ∷ rows) = if is_same_text word row.0 then Some row.1 else look_up word rows
