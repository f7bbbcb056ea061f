-- Arrays of a ReDim.
use Rattle.std.proofs.Common.{◌≡◌, ℕ, ◌<◌, ◌≤◌, max, List, ◌∷◌, take, drop, sym, ap, ◌∙◌, subst, arith, Option, Some, ◌⊎◌, inl, inr, map, option_map, Result, Ok, Err}
use Rattle.std.proofs.lemmas.Bool.{cases_lt}
use Rattle.vb_tree.specs.declared.expression.Expr6.{Expr6}
use Rattle.vb_tree.specs.declared.form_parts.Bounds6.{Bounds6}
use Rattle.vb_tree.specs.declared.form_parts.TypeName6.{TypeName6}
use Rattle.vb_tree.specs.declared.token.Token.{Token}
use Rattle.vb_tree.specs.View.{exp_of, bounds_of, type_name_of}
use Rattle.vb_tree.specs.Tree.{Exp, Bounds, TypeName, ReDimItem}
use Rattle.vb_tree.specs.Expressions.{depth_of}
use Rattle.form_parts.specs.declared.answer.PartFail.{PartFail}
use Rattle.form_parts.specs.declared.cuts.Separator.TheVariants as sep
use Rattle.form_parts.specs.Answer.{FailsFor, Answers, both_of}
use Rattle.form_parts.specs.Cuts.{parted, pieces, Each}
use Rattle.form_parts.specs.Chains.{IsCallee, IsCalleeLength}
use Rattle.form_parts.specs.Parts.{IsBounds, bounds_depth}
use Rattle.form_parts.specs.Items.{deepest}
use Rattle.form_parts.specs.Redims.{IsParted, IsOptionalType, optional_type_depth, IsReDimItem, redim_depth}
use Rattle.form_parts.proofs.Answering.{fails_along, both_answers, both_failed, both_gave}

at_most : (tokens : List Token) (n m : ℕ) → IsCalleeLength tokens n → IsCalleeLength tokens m → m ≤ n
at_most tokens n m h k = go (cases_lt 0 m)
  where
    go : (0 < m) ⊎ (m ≤ 0) → m ≤ n
    go (inl low) = h.longest m k.within (k.member low)
    go (inr low) = omega arith

pub one_length : (tokens : List Token) (n m : ℕ) → IsCalleeLength tokens n → IsCalleeLength tokens m → n ≡ m
one_length tokens n m h k = let a = at_most tokens n m h k in let b = at_most tokens m n k h in omega (arith, a, b)

pub one_parted : (tokens a b c d e f : List Token) → IsParted tokens a b c → IsParted tokens d e f → (a ≡ d) × (b ≡ e) × (c ≡ f)
one_parted tokens a b c d e f h k =
    let n = one_length tokens h.len k.len h.longest k.longest in
    let front : a ≡ d = sym h.front ∙ ap (λ x. take x tokens) n ∙ k.front in
    let rest : ◌≡◌ {A = List Token} (h.paren ∷ h.inside) (k.paren ∷ k.inside) = sym h.behind ∙ ap (λ x. drop x tokens) n ∙ k.behind in
    let same : h.inside ≡ k.inside = cc in
    let cut : ◌≡◌ {A = Option (List Token × List Token)} (Some (b, c)) (Some (e, f)) = sym h.closed ∙ ap (parted sep.Closing) same ∙ k.closed in
    let pair : ◌≡◌ {A = List Token × List Token} (b, c) (e, f) = cc in
    (front, ap (λ x. x.0) pair, ap (λ x. x.1) pair)

module _ (tokens array bounds after : List Token) (p : IsParted tokens array bounds after) where
  abbrev pub Three : Type 0
  Three = (Exp × List Bounds) × Option TypeName

  abbrev pub AreParts : Three → Type 0
  AreParts x = (IsCallee array x.0.0 × Each IsBounds (pieces sep.Comma bounds) x.0.1) × IsOptionalType after x.1

  abbrev pub parts_depth : Three → ℕ
  parts_depth x = max (max (depth_of x.0.0) (deepest bounds_depth x.0.1)) (optional_type_depth x.1)

  pub item_of : (x : Three) → AreParts x → IsReDimItem tokens (record { array = x.0.0; bounds = x.0.1; ty = x.1 })
  item_of x h = (array, bounds, after, p, h.0.0, h.0.1, h.1)

  parts_of : (r : ReDimItem) → IsReDimItem tokens r → (x : Three) × AreParts x
  parts_of r q =
      let same = one_parted tokens array bounds after q.0 q.1 q.2 p q.3 in
      (((r.array, r.bounds), r.ty), ((subst (λ x. IsCallee x r.array) (sym same.0) q.4, subst (λ x. Each IsBounds (pieces sep.Comma x) r.bounds) (sym same.1) q.5), subst (λ x. IsOptionalType x r.ty) (sym same.2) q.6))

  pub item_fails : (f : PartFail) → FailsFor AreParts parts_depth f → FailsFor (IsReDimItem tokens) redim_depth f
  item_fails = fails_along AreParts parts_depth (IsReDimItem tokens) redim_depth (λ x h. (record { array = x.0.0; bounds = x.0.1; ty = x.1 }, item_of x h, omega arith)) (λ r q. parts_of r q)

  abbrev view_two : Expr6 × List Bounds6 → Exp × List Bounds
  view_two p = (exp_of p.0, map bounds_of p.1)

  abbrev AreTwo : Exp × List Bounds → Type 0
  AreTwo p = IsCallee array p.0 × Each IsBounds (pieces sep.Comma bounds) p.1

  abbrev two_depth : Exp × List Bounds → ℕ
  two_depth p = max (depth_of p.0) (deepest bounds_depth p.1)

  module _ (r : Result Expr6 PartFail) (s : Result (List Bounds6) PartFail) (q : Result (Option TypeName6) PartFail) (u : Result (Expr6 × List Bounds6) PartFail) (whole : Result ((Expr6 × List Bounds6) × Option TypeName6) PartFail) (is_array : Answers exp_of (IsCallee array) depth_of r) (are_bounds : Answers (map bounds_of) (Each IsBounds (pieces sep.Comma bounds)) (deepest bounds_depth) s) (is_type : Answers (option_map type_name_of) (IsOptionalType after) optional_type_depth q) (first : u ≡ both_of r s) (second : whole ≡ both_of u q) where
    are_two : Answers view_two AreTwo two_depth u
    are_two = subst (λ z. Answers view_two AreTwo two_depth z) (sym first) (both_answers exp_of (map bounds_of) (IsCallee array) (Each IsBounds (pieces sep.Comma bounds)) depth_of (deepest bounds_depth) r s is_array are_bounds)

    pub three_fail : (f : PartFail) → whole ≡ Err f → FailsFor (IsReDimItem tokens) redim_depth f
    three_fail f was = item_fails f (both_failed view_two (option_map type_name_of) AreTwo (IsOptionalType after) two_depth optional_type_depth u q whole f are_two is_type second was)

    pub three_give : (g : (Expr6 × List Bounds6) × Option TypeName6) → whole ≡ Ok g → IsReDimItem tokens (record { array = exp_of g.0.0; bounds = map bounds_of g.0.1; ty = option_map type_name_of g.1 }) × (redim_depth (record { array = exp_of g.0.0; bounds = map bounds_of g.0.1; ty = option_map type_name_of g.1 }) ≤ 64)
    three_give g was =
        let h = both_gave view_two (option_map type_name_of) AreTwo (IsOptionalType after) two_depth optional_type_depth u q whole g are_two is_type second was in
        (item_of ((exp_of g.0.0, map bounds_of g.0.1), option_map type_name_of g.1) h.0, h.1)
