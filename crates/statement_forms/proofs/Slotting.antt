-- Code lines of a statement, one by one.
use Rattle.std.proofs.Common.{◌≡◌, ℕ, ◌+◌, ◌<◌, List, [], ◌∷◌, ◌++◌, length, refl, sym, ap, subst, arith, Option, Some, None, Bool, true, false, Err}
use Rattle.vb_tree.specs.declared.token.Token.{Token}
use Rattle.vb_tree.specs.Tree.{Form}
use Rattle.vb_tree.specs.View.{form_of}
use Rattle.form_parts.specs.declared.cuts.Separator.{Separator}
use Rattle.form_parts.specs.declared.cuts.Separator.TheVariants as sep
use Rattle.form_parts.specs.Cuts.{parted, parted_in, part_behind, parts_here, open_after, pieces}
use Rattle.form_parts.proofs.Listing.{pieces_last, pieces_next}
use Rattle.statement_forms.specs.declared.pieces.FormFail.{FormFail}
use Rattle.statement_forms.specs.declared.pieces.FormFail.TheVariants as fail
use Rattle.statement_forms.specs.declared.pieces.Piece.{Piece}
use Rattle.statement_forms.specs.Pieces.{Slot, slots_at, IsPiece, ArePieces, FirstAt, AnswersSlots, PieceAnswers}

length_behind : (b : Bool) (t : Token) (ts : List Token) (r : Option (List Token × List Token)) (piece after : List Token) → ((p q : List Token) → r ≡ Some (p, q) → length ts ≡ length p + 1 + length q) → part_behind b t ts r ≡ Some (piece, after) → length (t ∷ ts) ≡ length piece + 1 + length after
length_behind true t ts r piece after h g =
    let e : ◌≡◌ {A = List Token × List Token} ([], ts) (piece, after) = cc in
    let k : [] ≡ piece = ap (λ x. x.0) e in
    let l : ts ≡ after = ap (λ x. x.1) e in
    omega (arith, ap length k, ap length l)
length_behind false t ts None piece after h g = absurd (cc)
length_behind false t ts (Some p) piece after h g =
    let e : ◌≡◌ {A = List Token × List Token} (t ∷ p.0, p.1) (piece, after) = cc in
    let k : t ∷ p.0 ≡ piece = ap (λ x. x.0) e in
    let l : p.1 ≡ after = ap (λ x. x.1) e in
    let m = h p.0 p.1 refl in
    omega (arith, m, ap length k, ap length l)

pub parted_length : (s : Separator) (d : ℕ) (tokens piece after : List Token) → parted_in s d tokens ≡ Some (piece, after) → length tokens ≡ length piece + 1 + length after
parted_length s d [] piece after h = absurd (cc)
parted_length s d (t ∷ ts) piece after h = length_behind (parts_here s d t.kind) t ts (parted_in s (open_after d t.kind) ts) piece after (parted_length s (open_after d t.kind) ts) h

module _ (M : List Token → Form → ℕ → Type 0) where
  pub one_more_piece : (done : List Slot) (s : Slot) (xs : List Piece) (x : Piece) → ArePieces M done xs → IsPiece M s x → ArePieces M (done ++ s ∷ []) (xs ++ x ∷ [])
  one_more_piece [] s [] x h k = (k, tt)
  one_more_piece [] s (y ∷ xs) x h k = absurd h
  one_more_piece (r ∷ done) s [] x h k = absurd h
  one_more_piece (r ∷ done) s (y ∷ xs) x h k = (h.0, one_more_piece done s xs x h.1 k)

  first_at : (P : List Token → Type 0) (done : List Slot) (s : Slot) (more : List Slot) (xs : List Piece) → ArePieces M done xs → P s.0 → FirstAt M P (length xs) (done ++ s ∷ more)
  first_at P [] s more [] h k = k
  first_at P [] s more (y ∷ xs) h k = absurd h
  first_at P (r ∷ done) s more [] h k = absurd h
  first_at P (r ∷ done) s more (y ∷ xs) h k = ((form_of y.form, h.0.0.0, h.0.0.1, h.0.0.2), first_at P done s more xs h.1 k)

  pub slot_fails : (done : List Slot) (s : Slot) (more slots : List Slot) (xs : List Piece) → slots ≡ done ++ s ∷ more → ArePieces M done xs → (e : FormFail) → PieceAnswers M s (length xs) (Err e) → AnswersSlots M slots (Err e)
  slot_fails done s more slots xs same h (fail.NoForm k) p =
      let at = first_at (λ ts. (f : Form) (n : ℕ) → M ts f n → ⊥) done s more xs h p.1 in
      subst (λ z. FirstAt M (λ ts. (f : Form) (n : ℕ) → M ts f n → ⊥) k z) (sym same) (subst (λ j. FirstAt M (λ ts. (f : Form) (n : ℕ) → M ts f n → ⊥) j (done ++ s ∷ more)) (sym p.0) at)
  slot_fails done s more slots xs same h (fail.TooDeep k) p =
      let at = first_at (λ ts. (f : Form) × (n : ℕ) × M ts f n × (64 < n)) done s more xs h p.1 in
      subst (λ z. FirstAt M (λ ts. (f : Form) × (n : ℕ) × M ts f n × (64 < n)) k z) (sym same) (subst (λ j. FirstAt M (λ ts. (f : Form) × (n : ℕ) × M ts f n × (64 < n)) j (done ++ s ∷ more)) (sym p.0) at)
  slot_fails done s more slots xs same h fail.Mem p = tt

pub slots_next : (from start : ℕ) (rest part after : List Token) → parted sep.Comma rest ≡ Some (part, after) → slots_at from start (pieces sep.Comma rest) ≡ (part, (from, start + length part)) ∷ slots_at (start + length part + 1) (start + length part + 1) (pieces sep.Comma after)
slots_next from start rest part after h = ap (slots_at from start) (pieces_next sep.Comma rest part after h)

pub slots_last : (from start : ℕ) (rest : List Token) → parted sep.Comma rest ≡ None → slots_at from start (pieces sep.Comma rest) ≡ (rest, (from, start + length rest)) ∷ []
slots_last from start rest h = ap (slots_at from start) (pieces_last sep.Comma rest h)
