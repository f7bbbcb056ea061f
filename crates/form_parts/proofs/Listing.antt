-- Lists of parts, one by one.
use Rattle.std.proofs.Common.{◌≡◌, ℕ, ◌==◌, ◌&&◌, length, ◌<◌, max, List, [], ◌∷◌, ◌++◌, map, refl, sym, ap, ◌∙◌, subst, arith, Option, Some, None, Bool, true, false, Result, Ok, Err, option_map, inl, inr}
use Rattle.std.proofs.lemmas.Bool.{eqb-true}
use Rattle.vb_tree.specs.declared.token.Sign.{Sign}
use Rattle.vb_tree.specs.declared.token.Sign.TheVariants.{Comma, Semicolon, Equal, CloseParen}
use Rattle.vb_tree.specs.declared.token.Token.{Token}
use Rattle.vb_tree.specs.declared.token.TokenKind.{TokenKind}
use Rattle.vb_tree.specs.declared.token.TokenKind.TheVariants as kind
use Rattle.form_parts.specs.declared.answer.PartFail.{PartFail}
use Rattle.form_parts.specs.declared.answer.PartFail.TheVariants as fail
use Rattle.form_parts.specs.declared.cuts.Separator.{Separator}
use Rattle.form_parts.specs.declared.cuts.Separator.TheVariants as sep
use Rattle.form_parts.specs.Answer.{Answers}
use Rattle.form_parts.specs.Cuts.{parted, parted_in, part_behind, parts_here, open_after, pieces, pieces_in, placed, Each, is_separator_sign, open_sign}
use Rattle.form_parts.specs.Items.{deepest, one_more, IsOrMem}

module _ {A X : Type 0} (v : A → X) (P : List Token → X → Type 0) (d : X → ℕ) where
  each_more : (ps : List (List Token)) (p : List Token) (xs : List X) (x : X) → Each P ps xs → P p x → Each P (ps ++ p ∷ []) (xs ++ x ∷ [])
  each_more [] p [] x h k = (k, tt)
  each_more [] p (y ∷ xs) x h k = absurd h
  each_more (q ∷ ps) p [] x h k = absurd h
  each_more (q ∷ ps) p (y ∷ xs) x h k = (h.0, each_more ps p xs x h.1 k)

  each_less : (ps : List (List Token)) (p : List Token) (xs : List X) → Each P (ps ++ p ∷ []) xs → ((ys : List X) × Each P ps ys) × ((y : X) × P p y)
  each_less [] p [] h = absurd h
  each_less [] p (x ∷ xs) h = (([], tt), (x, h.0))
  each_less (q ∷ ps) p [] h = absurd h
  each_less (q ∷ ps) p (x ∷ xs) h = let r = each_less ps p xs h.1 in ((x ∷ r.0.0, (h.0, r.0.1)), r.1)

  deepest-more : (xs : List X) (x : X) → deepest d (xs ++ x ∷ []) ≡ max (deepest d xs) (d x)
  deepest-more [] x = omega arith
  deepest-more (y ∷ xs) x = let h = deepest-more xs x in omega (arith, h)

  map-more : (xs : List A) (x : A) → map v (xs ++ x ∷ []) ≡ map v xs ++ v x ∷ []
  map-more [] x = refl
  map-more (y ∷ xs) x = ap (λ r. v y ∷ r) (map-more xs x)

  pub more_answers : (ps : List (List Token)) (p : List Token) (r : Result (List A) PartFail) (s : Result A PartFail) → Answers (map v) (Each P ps) (deepest d) r → Answers v (P p) d s → Answers (map v) (Each P (ps ++ p ∷ [])) (deepest d) (one_more r s)
  more_answers ps p (Ok xs) (Ok x) h k =
      let e = map-more xs x in
      (subst (λ z. Each P (ps ++ p ∷ []) z) (sym e) (each_more ps p (map v xs) (v x) h.0 k.0), let f = ap (deepest d) e ∙ deepest-more (map v xs) (v x) in omega (arith, f, h.1, k.1))
  more_answers ps p (Ok xs) (Err fail.NotFound) h k = λ z m. let r = each_less ps p z m in k r.1.0 r.1.1
  more_answers ps p (Ok xs) (Err fail.TooDeep) h k = (map v xs ++ k.0 ∷ [], each_more ps p (map v xs) k.0 h.0 k.1, let f = deepest-more (map v xs) k.0 in omega (arith, f, k.2))
  more_answers ps p (Ok xs) (Err fail.Mem) h k = tt
  more_answers ps p (Err fail.NotFound) (Ok x) h k = λ z m. let r = each_less ps p z m in h r.0.0 r.0.1
  more_answers ps p (Err fail.TooDeep) (Ok x) h k = (h.0 ++ v x ∷ [], each_more ps p h.0 (v x) h.1 k.0, let f = deepest-more h.0 (v x) in omega (arith, f, h.2))
  more_answers ps p (Err fail.Mem) (Ok x) h k = tt
  more_answers ps p (Err fail.NotFound) (Err fail.NotFound) h k = λ z m. let r = each_less ps p z m in h r.0.0 r.0.1
  more_answers ps p (Err fail.NotFound) (Err fail.TooDeep) h k = λ z m. let r = each_less ps p z m in h r.0.0 r.0.1
  more_answers ps p (Err fail.NotFound) (Err fail.Mem) h k = tt
  more_answers ps p (Err fail.TooDeep) (Err fail.NotFound) h k = λ z m. let r = each_less ps p z m in k r.1.0 r.1.1
  more_answers ps p (Err fail.TooDeep) (Err fail.TooDeep) h k = (h.0 ++ k.0 ∷ [], each_more ps p h.0 k.0 h.1 k.1, let f = deepest-more h.0 k.0 in omega (arith, f, h.2))
  more_answers ps p (Err fail.TooDeep) (Err fail.Mem) h k = tt
  more_answers ps p (Err fail.Mem) (Err f) h k = tt

  pub more_or_mem : (ps : List (List Token)) (p : List Token) (r : Result (List A) PartFail) (s : Result A PartFail) (whole : Result (List A) PartFail) → Answers (map v) (Each P ps) (deepest d) r → Answers v (P p) d s → IsOrMem (one_more r s) whole → Answers (map v) (Each P (ps ++ p ∷ [])) (deepest d) whole
  more_or_mem ps p r s whole h k (inl e) = subst (λ z. Answers (map v) (Each P (ps ++ p ∷ [])) (deepest d) z) (sym e) (more_answers ps p r s h k)
  more_or_mem ps p r s whole h k (inr e) = subst (λ z. Answers (map v) (Each P (ps ++ p ∷ [])) (deepest d) z) (sym e) tt

-- the pieces by the first cut
abbrev pieces_by : List Token → (List Token → List (List Token)) → Option (List Token × List Token) → List (List Token)
pieces_by tokens rest None = tokens ∷ []
pieces_by tokens rest (Some p) = p.0 ∷ rest p.1

sign_keeps : (s : Separator) (x : Sign) → is_separator_sign s x ≡ true → open_sign 0 x ≡ 0
sign_keeps sep.Comma Comma h = refl
sign_keeps sep.Comma _ h = absurd (cc)
sign_keeps sep.Semicolon Semicolon h = refl
sign_keeps sep.Semicolon _ h = absurd (cc)
sign_keeps sep.Equal Equal h = refl
sign_keeps sep.Equal _ h = absurd (cc)
sign_keeps sep.Closing CloseParen h = refl
sign_keeps sep.Closing _ h = absurd (cc)

both_hold : (a b : Bool) → (a && b) ≡ true → (a ≡ true) × (b ≡ true)
both_hold true b h = (refl, h)
both_hold false b h = absurd (cc)

zero_is : (d : ℕ) (b : Bool) → ((d == 0) && b) ≡ true → (d ≡ 0) × (b ≡ true)
zero_is d b h = let r = both_hold (d == 0) b h in (eqb-true d 0 r.0, r.1)

here_closed : (s : Separator) (d : ℕ) (k : TokenKind) → parts_here s d k ≡ true → open_after d k ≡ 0
here_closed s d (kind.Word n x) h = absurd (cc (h, (zero_is d false h).1))
here_closed s d (kind.Bracketed n x) h = absurd (cc (h, (zero_is d false h).1))
here_closed s d (kind.Lit l) h = absurd (cc (h, (zero_is d false h).1))
here_closed s d (kind.Sign x) h = let r = zero_is d (is_separator_sign s x) h in ap (λ z. open_sign z x) r.0 ∙ sign_keeps s x r.1

placed_by : (s : Separator) (t : Token) (ts : List Token) (r : Option (List Token × List Token)) → placed false t (pieces_by ts (pieces_in s 0) r) ≡ pieces_by (t ∷ ts) (pieces_in s 0) (option_map (λ p. (t ∷ p.0, p.1)) r)
placed_by s t ts None = refl
placed_by s t ts (Some p) = refl

cut_here : (s : Separator) (d : ℕ) (t : Token) (ts : List Token) (b : Bool) → parts_here s d t.kind ≡ b → pieces_in s (open_after d t.kind) ts ≡ pieces_by ts (pieces_in s 0) (parted_in s (open_after d t.kind) ts) → placed b t (pieces_in s (open_after d t.kind) ts) ≡ pieces_by (t ∷ ts) (pieces_in s 0) (part_behind b t ts (parted_in s (open_after d t.kind) ts))
cut_here s d t ts true h k = ap (λ z. [] ∷ pieces_in s z ts) (here_closed s d t.kind h)
cut_here s d t ts false h k = ap (placed false t) k ∙ placed_by s t ts (parted_in s (open_after d t.kind) ts)

pub pieces_cut : (s : Separator) (d : ℕ) (tokens : List Token) → pieces_in s d tokens ≡ pieces_by tokens (pieces_in s 0) (parted_in s d tokens)
pieces_cut s d [] = refl
pieces_cut s d (t ∷ ts) = cut_here s d t ts (parts_here s d t.kind) refl (pieces_cut s (open_after d t.kind) ts)

pub pieces_last : (s : Separator) (tokens : List Token) → parted s tokens ≡ None → pieces s tokens ≡ tokens ∷ []
pieces_last s tokens h = pieces_cut s 0 tokens ∙ ap (pieces_by tokens (pieces_in s 0)) h

pub pieces_next : (s : Separator) (tokens piece after : List Token) → parted s tokens ≡ Some (piece, after) → pieces s tokens ≡ piece ∷ pieces s after
pieces_next s tokens piece after h = pieces_cut s 0 tokens ∙ ap (pieces_by tokens (pieces_in s 0)) h

shorter_behind : (b : Bool) (t : Token) (ts : List Token) (r : Option (List Token × List Token)) (piece after : List Token) → ((p q : List Token) → r ≡ Some (p, q) → length q < length ts) → part_behind b t ts r ≡ Some (piece, after) → length after < length (t ∷ ts)
shorter_behind true t ts r piece after h g = let e : ◌≡◌ {A = List Token × List Token} ([], ts) (piece, after) = cc in let k : ts ≡ after = ap (λ x. x.1) e in omega (arith, ap length k)
shorter_behind false t ts None piece after h g = absurd (cc)
shorter_behind false t ts (Some p) piece after h g =
    let e : ◌≡◌ {A = List Token × List Token} (t ∷ p.0, p.1) (piece, after) = cc in
    let k : p.1 ≡ after = ap (λ x. x.1) e in
    let m = h p.0 p.1 refl in
    omega (arith, m, ap length k)

-- a cut leaves fewer tokens
pub parted_shorter : (s : Separator) (d : ℕ) (tokens piece after : List Token) → parted_in s d tokens ≡ Some (piece, after) → length after < length tokens
parted_shorter s d [] piece after h = absurd (cc)
parted_shorter s d (t ∷ ts) piece after h = shorter_behind (parts_here s d t.kind) t ts (parted_in s (open_after d t.kind) ts) piece after (parted_shorter s (open_after d t.kind) ts) h
