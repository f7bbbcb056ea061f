-- One more link at the end of a grouped expression: some grouped expression is written so.
use Rattle.std.proofs.Common.{◌≡◌, ℕ, ◌<◌, ◌≤◌, List, ◌∷◌, ◌++◌, inl, inr, refl, ap, ◌∙◌, arith, append_assoc, Option, Bool, true, false}
use Rattle.std.proofs.lemmas.Bool.{cases_lt}
use Rattle.up_base.specs.Names.{is_name}
use Rattle.vb_tree.specs.Expressions.{Symbol, operator, IsWord, Naming, qualified, Written, simple, implicit, creation, address, type_test, paren, unary, binary, member, index, single, dotted, prefix_symbol, prefix_level, level_of, spelling, join_level, end_level, IsGrouped, AreGrouped, IsNoTypePart, IsNoLoneOmitted}
use Rattle.vb_exprs.specs.Reading.{Link, operator_link, member_link, index_link, link_spelling}
use Rattle.vb_exprs.proofs.Spines.{level_bounds, prefix_bounds}

abbrev pub link_level : Link → ℕ
link_level (operator_link op w r) = level_of op
link_level (member_link b n) = 0
link_level (index_link args) = 0

-- what stands right of the link is one operand, a word or a list of arguments
abbrev pub IsLinkGrouped : Link → Type 0
IsLinkGrouped (operator_link op w r) = IsGrouped r × (join_level r ≡ 0)
IsLinkGrouped (member_link b n) = IsWord n
IsLinkGrouped (index_link args) = AreGrouped args × IsNoLoneOmitted args

-- The link goes as far out as the precedence list lets it: outside t only if t ends in no looser operator.
pub record Attached (t : Written) (k : Link) : Type 0 where
  pub tree : Written
  pub grouped : IsGrouped tree
  pub spelled : spelling t ++ link_spelling k ≡ spelling tree
  pub joined : (n : ℕ) → join_level t < n → (end_level t ≤ link_level k → link_level k < n) → join_level tree < n
  pub ended : link_level k ≤ 0 → end_level t ≤ 0 → end_level tree ≤ 0

abbrev IsApart : Written → Link → Type 0
IsApart t (member_link b n) = IsNoTypePart t b n
IsApart t _ = Unit {0}

outside : (t : Written) (k : Link) → IsApart t k → IsGrouped t → IsLinkGrouped k → end_level t ≤ link_level k → Attached t k
outside t (operator_link op w r) apart g k e = record { tree = binary op w t r; grouped = (g, k.0, e, omega (arith, level_bounds op, k.1)); spelled = refl; joined = λ n a b. b e; ended = λ a b. absurd (omega (arith, level_bounds op)) }
outside t (member_link b m) apart g k e = record { tree = member t b m; grouped = (g, e, k, apart); spelled = refl; joined = λ n a b. b e; ended = λ a b. omega arith }
outside t (index_link args) apart g k e = record { tree = index t args; grouped = (g, e, k.0, k.1); spelled = refl; joined = λ n a b. b e; ended = λ a b. omega arith }

-- a word behind a type of one name
new_part : (w : List ℕ) (n : Naming) (m : Symbol) → IsWord m → Attached (creation w (single n)) (member_link false m)
new_part w n m h = go (is_name (qualified n m)) refl
  where
    go : (b : Bool) → is_name (qualified n m) ≡ b → Attached (creation w (single n)) (member_link false m)
    go true e = record { tree = creation w (dotted n m); grouped = (h, e); spelled = refl; joined = λ k a b. a; ended = λ a b. omega arith }
    go false e = outside (creation w (single n)) (member_link false m) e tt h (omega arith)

test_part : (w : List ℕ) (o : Written) (is : Option (List ℕ)) (n : Naming) (m : Symbol) → IsGrouped (type_test w o is (single n)) → IsWord m → Attached (type_test w o is (single n)) (member_link false m)
test_part w o is n m g h = go (is_name (qualified n m)) refl
  where
    go : (b : Bool) → is_name (qualified n m) ≡ b → Attached (type_test w o is (single n)) (member_link false m)
    go true e = record { tree = type_test w o is (dotted n m); grouped = (g.0, g.1, (h, e)); spelled = simp append_assoc; joined = λ k a b. a; ended = λ a b. omega arith }
    go false e = outside (type_test w o is (single n)) (member_link false m) e g h (omega arith)

apart : (t : Written) → ((b : Bool) (n : Symbol) → IsNoTypePart t b n) → (k : Link) → IsApart t k
apart t h (operator_link op w r) = tt
apart t h (member_link b n) = h b n
apart t h (index_link args) = tt

pub attach : (t : Written) (k : Link) → IsGrouped t → IsLinkGrouped k → Attached t k
attach (simple a) k g h = outside (simple a) k (apart (simple a) (λ b n. tt) k) g h (omega arith)
attach (implicit b n) k g h = outside (implicit b n) k (apart (implicit b n) (λ b n. tt) k) g h (omega arith)
attach (creation w (dotted n m)) k g h = outside (creation w (dotted n m)) k (apart (creation w (dotted n m)) (λ b n. tt) k) g h (omega arith)
attach (address w n) k g h = outside (address w n) k (apart (address w n) (λ b n. tt) k) g h (omega arith)
attach (type_test w o is (dotted n m)) k g h = outside (type_test w o is (dotted n m)) k (apart (type_test w o is (dotted n m)) (λ b n. tt) k) g h (omega arith)
attach (paren e) k g h = outside (paren e) k (apart (paren e) (λ b n. tt) k) g h (omega arith)
attach (member e b n) k g h = outside (member e b n) k (apart (member e b n) (λ b n. tt) k) g h (omega arith)
attach (index e args) k g h = outside (index e args) k (apart (index e args) (λ b n. tt) k) g h (omega arith)
attach (creation w (single n)) (member_link false m) g h = new_part w n m h
attach (creation w (single n)) (member_link true m) g h = outside (creation w (single n)) (member_link true m) tt g h (omega arith)
attach (creation w (single n)) (operator_link op v r) g h = outside (creation w (single n)) (operator_link op v r) tt g h (omega arith)
attach (creation w (single n)) (index_link args) g h = outside (creation w (single n)) (index_link args) tt g h (omega arith)
attach (type_test w o is (single n)) (member_link false m) g h = test_part w o is n m g h
attach (type_test w o is (single n)) (member_link true m) g h = outside (type_test w o is (single n)) (member_link true m) tt g h (omega arith)
attach (type_test w o is (single n)) (operator_link op v r) g h = outside (type_test w o is (single n)) (operator_link op v r) tt g h (omega arith)
attach (type_test w o is (single n)) (index_link args) g h = outside (type_test w o is (single n)) (index_link args) tt g h (omega arith)
attach (unary p t) k g h =
    let a = attach t k g.0 h in
    elim (cases_lt (link_level k) (end_level (unary p t))) [
      | inl inside ↦ record {
        tree = unary p a.tree;
        grouped = (a.grouped, a.joined (prefix_level p) g.1 (λ e. omega arith));
        spelled = ap (λ x. prefix_symbol p ∷ x) a.spelled;
        joined = λ n b c. omega arith;
        ended = λ b c. absurd (omega (arith, prefix_bounds p));
      }
      | inr e ↦ outside (unary p t) k (apart (unary p t) (λ b n. tt) k) g h e
    ]
attach (binary op w l r) k g h =
    let a = attach r k g.1 h in
    elim (cases_lt (link_level k) (end_level (binary op w l r))) [
      | inl inside ↦ record {
        tree = binary op w l a.tree;
        grouped = (g.0, a.grouped, g.2, a.joined (level_of op) g.3 (λ e. omega arith));
        spelled = append_assoc (spelling l) (operator op w ∷ spelling r) (link_spelling k) ∙ ap (λ x. spelling l ++ operator op w ∷ x) a.spelled;
        joined = λ n b c. b;
        ended = λ b c. absurd (omega (arith, level_bounds op));
      }
      | inr e ↦ outside (binary op w l r) k (apart (binary op w l r) (λ b n. tt) k) g h e
    ]
