-- Cuts at the first As, and at the last token.
use Rattle.std.proofs.Common.{◌≡◌, ℕ, List, [], ◌∷◌, ◌++◌, refl, sym, ap, ◌∙◌, append-nil, append_assoc, Option, Some, None, option_map, Bool, true, false, cond, ◌||◌, map, nat_eq, Bor}
use Rattle.std.specs.List.{list_any}
use Rattle.std.specs.Cmp.Lexicographic.{pointwise}
use Rattle.vb_tree.specs.declared.token.Token.{Token}
use Rattle.form_parts.specs.Cuts.{open_after, part_behind}
use Rattle.declaration_forms.specs.Outlines.{is_as, typed_in, type_words, is_type_word}
use Rattle.declaration_forms.specs.Words.{before_last}

abbrev pub Parted : Type 0
Parted = Option (List Token × List Token)

-- what was passed before a cut stands in front of it
abbrev pub behind : List Token → Parted → Parted
behind before r = option_map (λ p. (before ++ p.0, p.1)) r

longer : (before : List Token) (t : Token) (r : Parted) → behind before (option_map (λ p. (t ∷ p.0, p.1)) r) ≡ behind (before ++ t ∷ []) r
longer before t None = refl
longer before t (Some p) = ap (λ x. Some (x, p.1)) (sym (append_assoc before (t ∷ []) p.0))

pub typed_step : (d : ℕ) (before : List Token) (t : Token) (ts : List Token) (whole : Parted) → whole ≡ behind before (typed_in d (t ∷ ts)) → is_as d t.kind ≡ false → whole ≡ behind (before ++ t ∷ []) (typed_in (open_after d t.kind) ts)
typed_step d before t ts whole h off = h ∙ ap (λ b. behind before (part_behind b t ts (typed_in (open_after d t.kind) ts))) off ∙ longer before t (typed_in (open_after d t.kind) ts)

pub typed_stop : (d : ℕ) (before : List Token) (t : Token) (ts : List Token) (whole : Parted) → whole ≡ behind before (typed_in d (t ∷ ts)) → is_as d t.kind ≡ true → whole ≡ Some (before, ts)
typed_stop d before t ts whole h on = h ∙ ap (λ b. behind before (part_behind b t ts (typed_in (open_after d t.kind) ts))) on ∙ ap (λ x. Some (x, ts)) (append-nil before)

-- a list that ends with a token
pub before_end : (p : Token → Bool) (before : List Token) (t : Token) → before_last p (before ++ t ∷ []) ≡ cond (p t) (Some before) None
before_end p [] t = refl
before_end p (a ∷ []) t = go (p t)
  where
    go : (b : Bool) → option_map (λ r. a ∷ r) (cond b (Some []) None) ≡ cond b (Some (a ∷ [])) None
    go true = refl
    go false = refl
before_end p (a ∷ b ∷ more) t = ap (λ r. option_map (λ r. a ∷ r) r) (before_end p (b ∷ more) t) ∙ go (p t)
  where
    go : (c : Bool) → option_map (λ r. a ∷ r) (cond c (Some (b ∷ more)) None) ≡ cond c (Some (a ∷ b ∷ more)) None
    go true = refl
    go false = refl

pub last_passes : (p : Token → Bool) (tokens before : List Token) (t : Token) → tokens ≡ before ++ t ∷ [] → p t ≡ true → Some before ≡ before_last p tokens
last_passes p tokens before t e h = sym (ap (before_last p) e ∙ before_end p before t ∙ ap (λ b. cond b (Some before) None) h)

pub last_fails : (p : Token → Bool) (tokens before : List Token) (t : Token) → tokens ≡ before ++ t ∷ [] → p t ≡ false → None ≡ before_last p tokens
last_fails p tokens before t e h = sym (ap (before_last p) e ∙ before_end p before t ∙ ap (λ b. cond b (Some before) None) h)

among : (words : List (Bor (List ℕ))) (w : List ℕ) → list_any (λ t. pointwise nat_eq w t.now) words ≡ list_any (λ t. pointwise nat_eq w t) (map (λ t. t.now) words)
among [] w = refl
among (t ∷ words) w = ap (λ b. pointwise nat_eq w t.now || b) (among words w)

pub word_among : (words : List (Bor (List ℕ))) (w : List ℕ) → map (λ t. t.now) words ≡ type_words → list_any (λ t. pointwise nat_eq w t.now) words ≡ is_type_word w
unfolding is_type_word
word_among words w e = among words w ∙ ap (list_any (λ t. pointwise nat_eq w t)) e

pub as_it_is : (b : Bool) → cond b true false ≡ b
as_it_is true = refl
as_it_is false = refl
