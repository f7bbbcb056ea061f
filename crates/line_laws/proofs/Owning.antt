-- The frame of a procedure may change what it has made for itself.
use Rattle.std.proofs.Common.{◌≡◌, ◌∙◌, refl, sym, ap, subst, ℕ, zero, suc, ◌+◌, Bool, true, false, cond, ◌&&◌, nat_eq, Some, List, [], ◌∷◌, slice_get, true≢false, eqb-true, eq-eqb, arith}
use Rattle.std.proofs.lemmas.Bool.{and_from, or_left, or_right}
use Rattle.std.specs.List.{list_any}
use Rattle.std.specs.Map.{lookup}
use Rattle.bound_tree.specs.Tree.{Line}
use Rattle.run_base.specs.Frames.{keeps_address}
use Rattle.run_base.specs.Positions.{Position, made}
use Rattle.vb6_run.specs.Store.{Address, root, SourceFrame}
use Rattle.vb6_run.specs.Shapes.{Shape, variable_shape}
use Rattle.net_run.specs.Lines.{NetFrame}
use Rattle.run_matches.specs.Upgrades.{Upgrade}
use Rattle.run_matches.specs.Maps.{World}
use Rattle.run_matches.specs.Pledges.{Pledge, is_own}
use Rattle.run_matches.specs.Addresses.{position_of}
use Rattle.run_matches.specs.Frames.{FrameMatch, OwnsAll, is_own_of, is_own_line, is_own_place, is_kept_from, is_kept_in, stands_in, own_of, lines_of, frame_pledge}
use Rattle.line_laws.proofs.Bounds.{some_is}

module _ (U : Upgrade) (p : ℕ) where
  abbrev is_own_entry : ℕ → ℕ × Address → Bool
  is_own_entry n x = is_own_of U p x.0 && stands_in n x.1

  found_at : (v n : ℕ) (a : Address) (x : ℕ × Address) (xs : List (ℕ × Address)) (b : Bool) → nat_eq v x.0 ≡ b
      → cond b (Some x.1) (lookup (nat_eq v) xs) ≡ Some a → is_own_of U p v ≡ true → stands_in n a ≡ true
      → (lookup (nat_eq v) xs ≡ Some a → list_any (is_own_entry n) xs ≡ true) → list_any (is_own_entry n) (x ∷ xs) ≡ true
  found_at v n a x xs true t e o s rest =
      or_left (is_own_entry n x) (list_any (is_own_entry n) xs)
      (and_from (is_own_of U p x.0) (stands_in n x.1) (subst (λ z. is_own_of U p z ≡ true) (eqb-true v x.0 t) o)
      (subst (λ z. stands_in n z ≡ true) (sym (some_is x.1 a e)) s))
  found_at v n a x xs false t e o s rest = or_right (is_own_entry n x) (list_any (is_own_entry n) xs) (rest e)

  is_entry : (v n : ℕ) (a : Address) (xs : List (ℕ × Address)) → lookup (nat_eq v) xs ≡ Some a → is_own_of U p v ≡ true → stands_in n a ≡ true
      → list_any (is_own_entry n) xs ≡ true
  is_entry v n a [] e o s = absurd (cc e)
  is_entry v n a (x ∷ xs) e o s = found_at v n a x xs (nat_eq v x.0) refl e o s (λ z. is_entry v n a xs z o s)

  module _ (f : SourceFrame) where
    is_kept : (n : ℕ) (a : Address) (l : Line) → is_own_line U p l ≡ true → stands_in n a ≡ true → (ls : List Line) (h i j : ℕ)
        → slice_get ls h ≡ Some l → f.kept j ≡ keeps_address a → j ≡ i + h → is_kept_from U p f n i ls ≡ true
    is_kept n a l o s [] h i j e k at = absurd (cc e)
    is_kept n a l o s (x ∷ ls) zero i j e k at =
        let here : j ≡ i = omega (arith, at) in
        or_left (is_own_line U p x && is_kept_in n (f.kept i)) (is_kept_from U p f n (suc i) ls)
        (and_from (is_own_line U p x) (is_kept_in n (f.kept i)) (subst (λ z. is_own_line U p z ≡ true) (sym (some_is x l e)) o)
        (ap (is_kept_in n) (subst (λ z. f.kept z ≡ keeps_address a) here k) ∙ s))
    is_kept n a l o s (x ∷ ls) (suc h) i j e k at =
        let next : j ≡ suc i + h = omega (arith, at) in
        or_right (is_own_line U p x && is_kept_in n (f.kept i)) (is_kept_from U p f n (suc i) ls) (is_kept n a l o s ls h (suc i) j e k next)

    own_root : (a : Address) (s : Shape) (n : ℕ) (path : List ℕ) → a ≡ root s (record { root = made n; path = path }) → is_own_place U p f n ≡ true
        → (q : Position) → position_of a ≡ Some q → is_own (own_of U p f) q.root ≡ true
    own_root a s n path e o q at =
        let place : Position = record { root = made n; path = path } in
        subst (λ (z : Position). is_own (own_of U p f) z.root ≡ true) (some_is place q (sym (ap position_of e) ∙ at)) o

    in_place : (a : Address) (s : Shape) (n : ℕ) (path : List ℕ) → a ≡ root s (record { root = made n; path = path }) → stands_in n a ≡ true
    in_place a s n path e = ap (stands_in n) e ∙ eq-eqb n n refl

    -- what stands in its own places is own
    pub owns_now : (K : Pledge) (w0 w : World) (g : NetFrame) → FrameMatch U K w p f g → OwnsAll U (frame_pledge U p w0 f) p f
    owns_now K w0 w g F = record {
      variables = λ v a e o q at old.
          let h = F.own v a e o in
          let own : is_own_place U p f h.place ≡ true =
          or_left (list_any (is_own_entry h.place) f.vars) (is_kept_from U p f h.place 1 (lines_of U p))
          (is_entry v h.place a f.vars e o (in_place a (variable_shape U.program.declarations v) h.place [] h.stands)) in
          true≢false (sym (own_root a (variable_shape U.program.declarations v) h.place [] h.stands own q at) ∙ old.foreign);
      heads = λ i l a e o k q at old.
          let h = F.own_heads i l a e o k in
          let own : is_own_place U p f h.place ≡ true =
          or_right (list_any (is_own_entry h.place) f.vars) (is_kept_from U p f h.place 1 (lines_of U p))
          (is_kept h.place a l o (in_place a h.shape h.place h.path h.stands) (lines_of U p) i 1 (suc i) e k (omega arith)) in
          true≢false (sym (own_root a h.shape h.place h.path h.stands own q at) ∙ old.foreign);
    }
