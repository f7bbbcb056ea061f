-- How parts of a file are taken, line after line.
use Rattle.std.proofs.Common.{◌≡◌, ℕ, suc, Bool, true, ◌&&◌, List, [], ◌∷◌, ◌++◌, refl, sym, ap, subst, ◌∙◌, append_assoc, append-nil, Option, Some, None}
use Rattle.std.specs.Cmp.Lexicographic.{bytes_decides}
use Rattle.std.specs.List.{flat_map, list_all}
use Rattle.net_tree.specs.Spelling.{at_depth, is_same_text}
use Rattle.net_exprs.proofs.Words.{both_true}
use Rattle.net_reader.specs.FileLines.{file_lines}
use Rattle.net_reader.specs.ModuleReader.{State, behind_line, is_line, run, step, taken}
use Rattle.net_reader.proofs.CutLines.{IsLine, line_cut}
use Rattle.net_reader.proofs.Tests.{and_true, if_true}

-- ---- what is written for an item is taken as that item

pub same_text : (a b : List ℕ) → a ≡ b → is_same_text a b ≡ true
same_text a b e = (bytes_decides a b).1 e

pub line_is_itself : (depth : ℕ) (text : List ℕ) → is_line depth text (at_depth depth text) ≡ true
line_is_itself depth text = same_text (at_depth depth text) (at_depth depth text) refl

pub own_taken : {A : Type 0} (passes : A → Bool) (written : A → List ℕ) (x : A) (line : List ℕ) (found : Option A) →
    found ≡ Some x → passes x ≡ true → written x ≡ line → taken passes written line found ≡ Some x
own_taken passes written x line found is h e =
    ap (taken passes written line) is
    ∙ if_true (passes x && is_same_text (written x) line) (Some x) None (and_true (passes x) (is_same_text (written x) line) h (same_text (written x) line e))

-- ---- lines of a file

-- a text that leads from a state to another, whatever follows it and whatever the number of its first line
pub record Takes (s : State) (text : List ℕ) (after : State) : Type 0 where
  pub number_behind : ℕ → ℕ
  pub takes : (number : ℕ) (rest : List ℕ) → run s number (file_lines (text ++ rest)) ≡ run after (number_behind number) (file_lines rest)

pub line_taken : (depth : ℕ) (text : List ℕ) (s after : State) → IsLine text → step s (at_depth depth text) ≡ Some after → Takes s (at_depth depth text) after
line_taken depth text s after is e = record {
  number_behind = λ number. suc number;
  takes = λ number rest. ap (run s number) (line_cut depth text rest is) ∙ ap (λ o. behind_line number o (λ next. run next (suc number) (file_lines rest))) e;
}

pub none_taken : (s : State) → Takes s [] s
none_taken s = record { number_behind = λ number. number; takes = λ number rest. refl }

pub both_taken : (a b : List ℕ) (s t u : State) → Takes s a t → Takes t b u → Takes s (a ++ b) u
both_taken a b s t u x y = record {
  number_behind = λ number. y.number_behind (x.number_behind number);
  takes = λ number rest. ap (λ z. run s number (file_lines z)) (append_assoc a b rest) ∙ x.takes number (b ++ rest) ∙ y.takes (x.number_behind number) rest;
}

-- parts one after another, each of which is added to those before it
module _ {X : Type 0} (text_of : X → List ℕ) (can : X → Bool) (with : List X → State) where
  abbrev pub EachTaken : Type 0
  EachTaken = (before : List X) (x : X) → can x ≡ true → Takes (with before) (text_of x) (with (before ++ x ∷ []))

  pub all_taken : EachTaken → (before xs : List X) → list_all can xs ≡ true → Takes (with before) (flat_map text_of xs) (with (before ++ xs))
  all_taken each before [] h = subst (λ (items : List X). Takes (with before) [] (with items)) (sym (append-nil before)) (none_taken (with before))
  all_taken each before (x ∷ xs) h =
      let both = both_true (can x) (list_all can xs) h in
      subst (λ (items : List X). Takes (with before) (text_of x ++ flat_map text_of xs) (with items)) (append_assoc before (x ∷ []) xs)
      (both_taken (text_of x) (flat_map text_of xs) (with before) (with (before ++ x ∷ [])) (with (before ++ x ∷ [] ++ xs))
      (each before x both.0) (all_taken each (before ++ x ∷ []) xs both.1))
