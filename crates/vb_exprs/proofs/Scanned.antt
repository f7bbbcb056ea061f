-- The scan ends well on exactly the expressions.
use Rattle.std.proofs.Common.{◌≡◌, ℕ, ◌<◌, ◌≤◌, List, [], ◌∷◌, ◌++◌, refl, sym, ap, ◌∙◌, subst, arith, append_assoc, append-nil, Option, Some, None, option_and_then, true, false}
use Rattle.vb_tree.specs.declared.expression.BinOp.{BinOp}
use Rattle.vb_tree.specs.declared.expression.BinOp.TheVariants.{Sub, Is}
use Rattle.vb_tree.specs.Expressions.{Symbol, leaf, literal, naming, constant, self, new_word, type_of_word, address_of_word, by_val_word, not_word, operator, reserved_word, access, opening, closing, comma, assign, hash, IsWord, Naming, Written, simple, implicit, creation, address, type_test, paren, unary, single, WrittenArgs, no_args, arg, omitted, given, Mark, by_val, number_sign, Prefix, negation, complement, prefix_symbol, prefix_level, spelling, args_spelling, more_spelling, mark_spelling, join_level, end_level, IsGrouped, AreGrouped, IsNoLoneOmitted}
use Rattle.vb_exprs.specs.declared.scan.Mode.{Mode}
use Rattle.vb_exprs.specs.declared.scan.Mode.TheVariants.{Operand, Named, Word, Name, After}
use Rattle.vb_exprs.specs.declared.scan.Mode.TheVariants as m
use Rattle.vb_exprs.specs.declared.scan.Bracket.{Bracket}
use Rattle.vb_exprs.specs.declared.scan.Bracket.TheVariants.{Group, Arguments, TypeTest}
use Rattle.vb_exprs.specs.TokenClass.{class_of}
use Rattle.vb_exprs.specs.Scan.{State, operand_step, after_step, word_step, prefix_step, operator_step, step_of, run, ends}
use Rattle.vb_exprs.specs.Reading.{IsWritten, Link, operator_link, member_link, index_link}
use Rattle.vb_exprs.proofs.Spines.{join_end, prefix_bounds}
use Rattle.vb_exprs.proofs.Grouping.{attach, Attached, link_level}
use Rattle.vb_exprs.proofs.Spelled.{IsEnd, EndsScan, Allowed}

-- what may come next in the innermost bracket
abbrev IsPart : List Bracket → Written → Type 0
IsPart (TypeTest ∷ o) u = end_level u ≤ 0
IsPart _ u = join_level u ≡ 0

part_of : (o : List Bracket) (u : Written) → end_level u ≤ 0 → IsPart o u
part_of [] u h = omega (arith, join_end u)
part_of (TypeTest ∷ o) u h = h
part_of (Group ∷ o) u h = omega (arith, join_end u)
part_of (Arguments ∷ o) u h = omega (arith, join_end u)

allowed_link : (o : List Bracket) (t : Written) (k : Link) → (a : Attached t k) → link_level k ≤ 0 → Allowed o t → Allowed o a.tree
allowed_link [] t k a low h = tt
allowed_link (TypeTest ∷ o) t k a low h = a.ended low h
allowed_link (Group ∷ o) t k a low h = tt
allowed_link (Arguments ∷ o) t k a low h = tt

-- what stands in the innermost bracket: an expression, or what any operand makes one of
abbrev Row : List Bracket → Mode → List Symbol → Type 0
Row o Operand row = (u : Written) → IsGrouped u → IsPart o u → (t : Written) × IsGrouped t × Allowed o t × (row ++ spelling u ≡ spelling t)
Row o After row = (t : Written) × IsGrouped t × Allowed o t × (row ≡ spelling t)
Row o _ row = ⊥

-- What stands before it: whatever expression comes next, and in a list whatever arguments come after it, and behind
-- TypeOf whatever name, what is closed then is an expression in the next bracket.
abbrev Opens : List Bracket → List Symbol → Type 0
Opens [] now = now ≡ []
Opens (Group ∷ o) now = (t : Written) → IsGrouped t → (below : List Symbol) × (row : List Symbol) × (now ++ (spelling t ++ closing ∷ []) ≡ below ++ row) × Opens o below × Row o After row
Opens (Arguments ∷ o) now = (t : Written) (rest : WrittenArgs) → IsGrouped t → AreGrouped rest → (below : List Symbol) × (row : List Symbol) × (now ++ (spelling t ++ (more_spelling rest ++ closing ∷ [])) ≡ below ++ row) × Opens o below × Row o After row
Opens (TypeTest ∷ o) now = (t : Written) (is : Option (List ℕ)) (n : Naming) → IsGrouped t → end_level t ≤ 0 → (below : List Symbol) × (row : List Symbol) × (now ++ (spelling t ++ operator Is is ∷ leaf (naming n) ∷ []) ≡ below ++ row) × Opens o below × Row o After row

record InRow (mode : Mode) (o : List Bracket) (now : List Symbol) : Type 0 where
  below : List Symbol
  row : List Symbol
  split : now ≡ below ++ row
  opens : Opens o below
  row_is : Row o mode row

-- where an argument begins, and behind the name of one
abbrev AtArgument : List Bracket → List Symbol → Type 0
AtArgument o now = (args : WrittenArgs) → AreGrouped args → InRow After o (now ++ (args_spelling args ++ closing ∷ []))

abbrev AtValue : List Bracket → List Symbol → Type 0
AtValue o now = (mark : Option Mark) (t : Written) (rest : WrittenArgs) → IsGrouped t → AreGrouped rest → InRow After o (now ++ (mark_spelling mark ++ (spelling t ++ (more_spelling rest ++ closing ∷ []))))

abbrev Good : Mode → List Bracket → List Symbol → Type 0
Good m.Argument (Arguments ∷ o) now = AtArgument o now
Good m.Value (Arguments ∷ o) now = AtValue o now
Good Named (Arguments ∷ o) now = (n : Naming) × (before : List Symbol) × (now ≡ before ++ leaf (naming n) ∷ []) × AtArgument o before
Good Operand o now = InRow Operand o now
Good After o now = InRow After o now
Good Word o now = (n : Symbol) → IsWord n → InRow After o (now ++ n ∷ [])
Good Name o now = (n : Naming) → InRow After o (now ++ leaf (naming n) ∷ [])
Good _ _ now = ⊥

abbrev GoodState : List Symbol → Option State → Type 0
GoodState now None = Unit {0}
GoodState now (Some s) = Good s.0 s.1 now

-- an operand in the innermost bracket
placed : (o : List Bracket) (now : List Symbol) → InRow Operand o now → (u : Written) → IsGrouped u → end_level u ≤ 0 → InRow After o (now ++ spelling u)
placed o now g u k h =
    let r = g.row_is u k (part_of o u h) in
    record {
      below = g.below;
      row = g.row ++ spelling u;
      split = ap (λ x. x ++ spelling u) g.split ∙ append_assoc g.below g.row (spelling u);
      opens = g.opens;
      row_is = (r.0, r.1, r.2, r.3);
    }

-- a prefix in it
prefix_row : (o : List Bracket) (p : Prefix) (now : List Symbol) → ((u : Written) → IsPart o u → join_level u ≡ 0) → ((u : Written) → join_level u ≡ 0 → IsPart o u) → InRow Operand o now → InRow Operand o (now ++ prefix_symbol p ∷ [])
prefix_row o p now down up g = record {
  below = g.below;
  row = g.row ++ prefix_symbol p ∷ [];
  split = ap (λ x. x ++ prefix_symbol p ∷ []) g.split ∙ append_assoc g.below g.row (prefix_symbol p ∷ []);
  opens = g.opens;
  row_is = λ u k j.
      let low : join_level u < prefix_level p = omega (arith, prefix_bounds p, down u j) in
      let r = g.row_is (unary p u) (k, low) (up (unary p u) refl) in
      (r.0, r.1, r.2, append_assoc g.row (prefix_symbol p ∷ []) (spelling u) ∙ r.3);
}

prefix_good : (o : List Bracket) (p : Prefix) (now : List Symbol) → InRow Operand o now → GoodState (now ++ prefix_symbol p ∷ []) (prefix_step o)
prefix_good [] p now g = prefix_row [] p now (λ u h. h) (λ u h. h) g
prefix_good (TypeTest ∷ o) p now g = tt
prefix_good (Group ∷ o) p now g = prefix_row (Group ∷ o) p now (λ u h. h) (λ u h. h) g
prefix_good (Arguments ∷ o) p now g = prefix_row (Arguments ∷ o) p now (λ u h. h) (λ u h. h) g

operand_good : (o : List Bracket) (s : Symbol) (now : List Symbol) → InRow Operand o now → GoodState (now ++ s ∷ []) (operand_step o (class_of s))
operand_good o (leaf (literal l)) now g = placed o now g (simple (literal l)) tt (omega arith)
operand_good o (leaf (naming n)) now g = placed o now g (simple (naming n)) tt (omega arith)
operand_good o (leaf (constant n s)) now g = placed o now g (simple (constant n s)) tt (omega arith)
operand_good o (leaf (self n)) now g = placed o now g (simple (self n)) tt (omega arith)
operand_good o (access bang) now g = λ n h. rw append_assoc (placed o now g (implicit bang n) h (omega arith))
operand_good o (new_word w) now g = λ n. rw append_assoc (placed o now g (creation w (single n)) tt (omega arith))
operand_good o (address_of_word w) now g = λ n. rw append_assoc (placed o now g (address w n) tt (omega arith))
operand_good o (type_of_word w) now g =
    record {
      below = now ++ type_of_word w ∷ [];
      row = [];
      split = sym (append-nil (now ++ type_of_word w ∷ []));
      opens = λ t is n k h.
          let r = placed o now g (type_test w t is (single n)) (k, h, tt) (omega arith) in
          (r.below, r.row, append_assoc now (type_of_word w ∷ []) (spelling t ++ operator Is is ∷ leaf (naming n) ∷ []) ∙ r.split, r.opens, r.row_is);
      row_is = λ u k j. (u, k, j, refl);
    }
operand_good o (operator Sub None) now g = prefix_good o negation now g
operand_good o (not_word w) now g = prefix_good o (complement w) now g
operand_good o opening now g =
    record {
      below = now ++ opening ∷ [];
      row = [];
      split = sym (append-nil (now ++ opening ∷ []));
      opens = λ t k.
          let r = placed o now g (paren t) k (omega arith) in
          (r.below, r.row, append_assoc now (opening ∷ []) (spelling t ++ closing ∷ []) ∙ r.split, r.opens, r.row_is);
      row_is = λ u k j. (u, k, tt, refl);
    }
operand_good o _ now g = tt

-- an argument list may begin as any list of grouped arguments, even one that is left out
plain : (args : WrittenArgs) → AreGrouped args → (a : WrittenArgs) × AreGrouped a × IsNoLoneOmitted a × (args_spelling a ≡ args_spelling args)
plain no_args g = (no_args, tt, tt, refl)
plain (arg None None omitted no_args) g = (no_args, tt, tt, refl)
plain (arg None (Some k) omitted no_args) g = absurd g.0
plain (arg (Some n) mark omitted no_args) g = absurd g.0
plain (arg name mark omitted (arg a b c d)) g = (arg name mark omitted (arg a b c d), g, tt, refl)
plain (arg name mark (given t) rest) g = (arg name mark (given t) rest, g, tt, refl)

-- and goes on behind a comma
further : (args : WrittenArgs) → AreGrouped args → (a : WrittenArgs) × AreGrouped a × (more_spelling a ≡ comma ∷ args_spelling args)
further no_args g = (arg None None omitted no_args, (tt, tt), refl)
further (arg name mark value rest) g = (arg name mark value rest, g, refl)

comma_row : (o : List Bracket) (now : List Symbol) → InRow After (Arguments ∷ o) now → AtArgument o (now ++ comma ∷ [])
comma_row o now g = λ args h.
    let t = g.row_is in
    let f = further args h in
    let w = g.opens t.0 f.0 t.1 f.1 in
    record {
      below = w.0;
      row = w.1;
      split =
          ap (λ x. (x ++ comma ∷ []) ++ (args_spelling args ++ closing ∷ [])) (g.split ∙ ap (λ x. g.below ++ x) t.3)
          ∙ (let e : ((g.below ++ spelling t.0) ++ comma ∷ []) ++ (args_spelling args ++ closing ∷ []) ≡ g.below ++ (spelling t.0 ++ ((comma ∷ args_spelling args) ++ closing ∷ [])) = simp append_assoc in e)
          ∙ ap (λ x. g.below ++ (spelling t.0 ++ (x ++ closing ∷ []))) (sym f.2)
          ∙ w.2;
      opens = w.3;
      row_is = w.4;
    }

-- an operator behind an expression
operator_row : (o : List Bracket) (op : BinOp) (v : Option (List ℕ)) (now : List Symbol) → ((u : Written) → IsPart o u → join_level u ≡ 0) → ((t : Written) → Allowed o t) → InRow After o now → InRow Operand o (now ++ operator op v ∷ [])
operator_row o op v now down free g = record {
  below = g.below;
  row = g.row ++ operator op v ∷ [];
  split = ap (λ x. x ++ operator op v ∷ []) g.split ∙ append_assoc g.below g.row (operator op v ∷ []);
  opens = g.opens;
  row_is = λ u k j.
      let t = g.row_is in
      let a = attach t.0 (operator_link op v u) t.1 (k, down u j) in
      (a.tree, a.grouped, free a.tree, append_assoc g.row (operator op v ∷ []) (spelling u) ∙ ap (λ x. x ++ operator op v ∷ spelling u) t.3 ∙ a.spelled);
}

is_row : (o : List Bracket) (v : Option (List ℕ)) (now : List Symbol) → InRow After (TypeTest ∷ o) now → Good Name o (now ++ operator Is v ∷ [])
is_row o v now g = λ n.
    let t = g.row_is in
    let w = g.opens t.0 v n t.1 t.2 in
    record {
      below = w.0;
      row = w.1;
      split =
          append_assoc now (operator Is v ∷ []) (leaf (naming n) ∷ [])
          ∙ ap (λ x. x ++ operator Is v ∷ leaf (naming n) ∷ []) (g.split ∙ ap (λ x. g.below ++ x) t.3)
          ∙ append_assoc g.below (spelling t.0) (operator Is v ∷ leaf (naming n) ∷ [])
          ∙ w.2;
      opens = w.3;
      row_is = w.4;
    }

operator_good : (o : List Bracket) (op : BinOp) (v : Option (List ℕ)) (now : List Symbol) → InRow After o now → GoodState (now ++ operator op v ∷ []) (operator_step o op)
operator_good [] op v now g = operator_row [] op v now (λ u h. h) (λ t. tt) g
operator_good (Group ∷ o) op v now g = operator_row (Group ∷ o) op v now (λ u h. h) (λ t. tt) g
operator_good (Arguments ∷ o) op v now g = operator_row (Arguments ∷ o) op v now (λ u h. h) (λ t. tt) g
operator_good (TypeTest ∷ o) Is v now g = is_row o v now g
operator_good (TypeTest ∷ o) _ v now g = tt

after_good : (o : List Bracket) (s : Symbol) (now : List Symbol) → InRow After o now → GoodState (now ++ s ∷ []) (after_step o (class_of s))
after_good o (operator op v) now g = operator_good o op v now g
after_good o (access b) now g = λ n h.
    let t = g.row_is in
    let a = attach t.0 (member_link b n) t.1 h in
    record {
      below = g.below;
      row = g.row ++ (access b ∷ n ∷ []);
      split = append_assoc now (access b ∷ []) (n ∷ []) ∙ ap (λ x. x ++ access b ∷ n ∷ []) g.split ∙ append_assoc g.below g.row (access b ∷ n ∷ []);
      opens = g.opens;
      row_is = (a.tree, a.grouped, allowed_link o t.0 (member_link b n) a (omega arith) t.2, ap (λ x. x ++ access b ∷ n ∷ []) t.3 ∙ a.spelled);
    }
after_good o opening now g = λ args h.
    let t = g.row_is in
    let p = plain args h in
    let a = attach t.0 (index_link p.0) t.1 (p.1, p.2) in
    record {
      below = g.below;
      row = g.row ++ (opening ∷ (args_spelling args ++ closing ∷ []));
      split = ap (λ x. (x ++ opening ∷ []) ++ (args_spelling args ++ closing ∷ [])) g.split ∙ simp append_assoc;
      opens = g.opens;
      row_is = (a.tree, a.grouped, allowed_link o t.0 (index_link p.0) a (omega arith) t.2, ap (λ x. g.row ++ (opening ∷ (x ++ closing ∷ []))) (sym p.3) ∙ ap (λ x. x ++ (opening ∷ (args_spelling p.0 ++ closing ∷ []))) t.3 ∙ a.spelled);
    }
after_good (Arguments ∷ o) comma now g = comma_row o now g
after_good (Arguments ∷ o) closing now g =
    let t = g.row_is in
    let w = g.opens t.0 no_args t.1 tt in
    record {
      below = w.0;
      row = w.1;
      split = ap (λ x. x ++ closing ∷ []) (g.split ∙ ap (λ x. g.below ++ x) t.3) ∙ append_assoc g.below (spelling t.0) (closing ∷ []) ∙ w.2;
      opens = w.3;
      row_is = w.4;
    }
after_good (Group ∷ o) closing now g =
    let t = g.row_is in
    let w = g.opens t.0 t.1 in
    record {
      below = w.0;
      row = w.1;
      split = ap (λ x. x ++ closing ∷ []) (g.split ∙ ap (λ x. g.below ++ x) t.3) ∙ append_assoc g.below (spelling t.0) (closing ∷ []) ∙ w.2;
      opens = w.3;
      row_is = w.4;
    }
after_good [] closing now g = tt
after_good (TypeTest ∷ o) closing now g = tt
after_good [] comma now g = tt
after_good (Group ∷ o) comma now g = tt
after_good (TypeTest ∷ o) comma now g = tt
after_good o (leaf (literal l)) now g = tt
after_good o (leaf (naming n)) now g = tt
after_good o (leaf (constant n s)) now g = tt
after_good o (leaf (self n)) now g = tt
after_good o _ now g = tt

-- an unnamed argument begins
argument_row : (o : List Bracket) (now : List Symbol) → AtArgument o now → Opens (Arguments ∷ o) now
argument_row o now at = λ t rest g h.
    let x = at (arg None None (given t) rest) (g, h) in
    (x.below, x.row, ap (λ y. now ++ y) (sym (append_assoc (spelling t) (more_spelling rest) (closing ∷ []))) ∙ x.split, x.opens, x.row_is)

-- behind a mark
marked_row : (o : List Bracket) (k : Mark) (s : Symbol) (now : List Symbol) → mark_spelling (Some k) ≡ s ∷ [] → AtArgument o now → Opens (Arguments ∷ o) (now ++ s ∷ [])
marked_row o k s now spelt at = λ t rest g h.
    let x = at (arg None (Some k) (given t) rest) (g, h) in
    let e : (now ++ s ∷ []) ++ (spelling t ++ (more_spelling rest ++ closing ∷ [])) ≡ now ++ (((s ∷ []) ++ (spelling t ++ more_spelling rest)) ++ closing ∷ []) = simp append_assoc in
    (x.below, x.row, e ∙ ap (λ y. now ++ ((y ++ (spelling t ++ more_spelling rest)) ++ closing ∷ [])) (sym spelt) ∙ x.split, x.opens, x.row_is)

value_row : (o : List Bracket) (now : List Symbol) → AtValue o now → Opens (Arguments ∷ o) now
value_row o now at = λ t rest g h.
    let x = at None t rest g h in
    (x.below, x.row, x.split, x.opens, x.row_is)

marked_value_row : (o : List Bracket) (k : Mark) (s : Symbol) (now : List Symbol) → mark_spelling (Some k) ≡ s ∷ [] → AtValue o now → Opens (Arguments ∷ o) (now ++ s ∷ [])
marked_value_row o k s now spelt at = λ t rest g h.
    let x = at (Some k) t rest g h in
    let e : (now ++ s ∷ []) ++ (spelling t ++ (more_spelling rest ++ closing ∷ [])) ≡ now ++ ((s ∷ []) ++ (spelling t ++ (more_spelling rest ++ closing ∷ []))) = simp append_assoc in
    (x.below, x.row, e ∙ ap (λ y. now ++ (y ++ (spelling t ++ (more_spelling rest ++ closing ∷ [])))) (sym spelt) ∙ x.split, x.opens, x.row_is)

-- an operand comes next, in a new row
new_row : (o : List Bracket) (now : List Symbol) → Opens (Arguments ∷ o) now → InRow Operand (Arguments ∷ o) now
new_row o now opens = record { below = now; row = []; split = sym (append-nil now); opens = opens; row_is = λ u k j. (u, k, tt, refl) }

named_row : (o : List Bracket) (now : List Symbol) (n : Naming) (before : List Symbol) → now ≡ before ++ leaf (naming n) ∷ [] → AtArgument o before → InRow After (Arguments ∷ o) now
named_row o now n before e at = record { below = before; row = leaf (naming n) ∷ []; split = e; opens = argument_row o before at; row_is = (simple (naming n), tt, tt, refl) }

named_value : (o : List Bracket) (now : List Symbol) (n : Naming) (before : List Symbol) → now ≡ before ++ leaf (naming n) ∷ [] → AtArgument o before → AtValue o (now ++ assign ∷ [])
named_value o now n before e at = λ mark t rest g h.
    let x = at (arg (Some n) mark (given t) rest) (g, h) in
    let r : ((before ++ leaf (naming n) ∷ []) ++ assign ∷ []) ++ (mark_spelling mark ++ (spelling t ++ (more_spelling rest ++ closing ∷ []))) ≡ before ++ ((leaf (naming n) ∷ assign ∷ (mark_spelling mark ++ (spelling t ++ more_spelling rest))) ++ closing ∷ []) = simp append_assoc in
    record {
      below = x.below;
      row = x.row;
      split = ap (λ y. (y ++ assign ∷ []) ++ (mark_spelling mark ++ (spelling t ++ (more_spelling rest ++ closing ∷ [])))) e ∙ r ∙ x.split;
      opens = x.opens;
      row_is = x.row_is;
    }

-- an argument that is left out before a comma
omitted_row : (o : List Bracket) (now : List Symbol) → AtArgument o now → AtArgument o (now ++ comma ∷ [])
omitted_row o now at = λ args h.
    let f = further args h in
    let x = at (arg None None omitted f.0) (tt, f.1) in
    record {
      below = x.below;
      row = x.row;
      split = append_assoc now (comma ∷ []) (args_spelling args ++ closing ∷ []) ∙ ap (λ y. now ++ (y ++ closing ∷ [])) (sym f.2) ∙ x.split;
      opens = x.opens;
      row_is = x.row_is;
    }

value_operand : (o : List Bracket) (s : Symbol) (now : List Symbol) → AtValue o now → GoodState (now ++ s ∷ []) (operand_step (Arguments ∷ o) (class_of s))
value_operand o s now g = operand_good (Arguments ∷ o) s now (new_row o now (value_row o now g))

value_good : (o : List Bracket) (s : Symbol) (now : List Symbol) → AtValue o now → GoodState (now ++ s ∷ []) (step_of m.Value (Arguments ∷ o) (class_of s))
value_good o (by_val_word w) now g = new_row o (now ++ by_val_word w ∷ []) (marked_value_row o (by_val w) (by_val_word w) now refl g)
value_good o hash now g = new_row o (now ++ hash ∷ []) (marked_value_row o number_sign hash now refl g)
value_good o (leaf (literal l)) now g = value_operand o (leaf (literal l)) now g
value_good o (leaf (naming n)) now g = value_operand o (leaf (naming n)) now g
value_good o (leaf (constant n x)) now g = value_operand o (leaf (constant n x)) now g
value_good o (leaf (self n)) now g = value_operand o (leaf (self n)) now g
value_good o s now g = value_operand o s now g

argument_operand : (o : List Bracket) (s : Symbol) (now : List Symbol) → AtArgument o now → GoodState (now ++ s ∷ []) (operand_step (Arguments ∷ o) (class_of s))
argument_operand o s now g = operand_good (Arguments ∷ o) s now (new_row o now (argument_row o now g))

argument_good : (o : List Bracket) (s : Symbol) (now : List Symbol) → AtArgument o now → GoodState (now ++ s ∷ []) (step_of m.Argument (Arguments ∷ o) (class_of s))
argument_good o (leaf (naming n)) now g = (n, now, refl, g)
argument_good o (by_val_word w) now g = new_row o (now ++ by_val_word w ∷ []) (marked_row o (by_val w) (by_val_word w) now refl g)
argument_good o hash now g = new_row o (now ++ hash ∷ []) (marked_row o number_sign hash now refl g)
argument_good o comma now g = omitted_row o now g
argument_good o closing now g = g no_args tt
argument_good o (leaf (literal l)) now g = argument_operand o (leaf (literal l)) now g
argument_good o (leaf (constant n x)) now g = argument_operand o (leaf (constant n x)) now g
argument_good o (leaf (self n)) now g = argument_operand o (leaf (self n)) now g
argument_good o s now g = argument_operand o s now g

named_after : (o : List Bracket) (s : Symbol) (now : List Symbol) → Good Named (Arguments ∷ o) now → GoodState (now ++ s ∷ []) (after_step (Arguments ∷ o) (class_of s))
named_after o s now g = after_good (Arguments ∷ o) s now (named_row o now g.0 g.1 g.2 g.3)

named_good : (o : List Bracket) (s : Symbol) (now : List Symbol) → Good Named (Arguments ∷ o) now → GoodState (now ++ s ∷ []) (step_of Named (Arguments ∷ o) (class_of s))
named_good o assign now g = named_value o now g.0 g.1 g.2 g.3
named_good o (leaf (literal l)) now g = named_after o (leaf (literal l)) now g
named_good o (leaf (naming n)) now g = named_after o (leaf (naming n)) now g
named_good o (leaf (constant n x)) now g = named_after o (leaf (constant n x)) now g
named_good o (leaf (self n)) now g = named_after o (leaf (self n)) now g
named_good o s now g = named_after o s now g

word_good : (o : List Bracket) (s : Symbol) (now : List Symbol) → Good Word o now → GoodState (now ++ s ∷ []) (word_step o (class_of s))
word_good o (leaf (literal l)) now g = tt
word_good o (leaf (naming n)) now g = g (leaf (naming n)) tt
word_good o (leaf (constant n x)) now g = g (leaf (constant n x)) tt
word_good o (leaf (self n)) now g = g (leaf (self n)) tt
word_good o (new_word n) now g = g (new_word n) tt
word_good o (type_of_word n) now g = g (type_of_word n) tt
word_good o (address_of_word n) now g = g (address_of_word n) tt
word_good o (by_val_word n) now g = g (by_val_word n) tt
word_good o (not_word n) now g = g (not_word n) tt
word_good o (operator op (Some n)) now g = g (operator op (Some n)) tt
word_good o (operator op None) now g = tt
word_good o (reserved_word n) now g = g (reserved_word n) tt
word_good o _ now g = tt

name_good : (o : List Bracket) (s : Symbol) (now : List Symbol) → Good Name o now → GoodState (now ++ s ∷ []) (step_of Name o (class_of s))
name_good o (leaf (naming n)) now g = g n
name_good o (leaf (literal l)) now g = tt
name_good o (leaf (constant n x)) now g = tt
name_good o (leaf (self n)) now g = tt
name_good o _ now g = tt

good_step : (mode : Mode) (o : List Bracket) (s : Symbol) (now : List Symbol) → Good mode o now → GoodState (now ++ s ∷ []) (step_of mode o (class_of s))
good_step Operand o s now g = operand_good o s now g
good_step After o s now g = after_good o s now g
good_step Word o s now g = word_good o s now g
good_step Name o s now g = name_good o s now g
good_step m.Value (Arguments ∷ o) s now g = value_good o s now g
good_step m.Value [] s now g = absurd g
good_step m.Value (Group ∷ o) s now g = absurd g
good_step m.Value (TypeTest ∷ o) s now g = absurd g
good_step m.Argument (Arguments ∷ o) s now g = argument_good o s now g
good_step m.Argument [] s now g = absurd g
good_step m.Argument (Group ∷ o) s now g = absurd g
good_step m.Argument (TypeTest ∷ o) s now g = absurd g
good_step Named (Arguments ∷ o) s now g = named_good o s now g
good_step Named [] s now g = absurd g
good_step Named (Group ∷ o) s now g = absurd g
good_step Named (TypeTest ∷ o) s now g = absurd g

pub end_state : (mode : Mode) (o : List Bracket) → ends mode o ≡ true → ◌≡◌ {A = Option State} (Some (mode, o)) (Some (After, []))
end_state After [] e = refl
end_state After (b ∷ o) e = absurd (cc)
end_state _ [] e = absurd (cc)
end_state _ (b ∷ o) e = absurd (cc)

pub no_end : (mode : Mode) (o : List Bracket) → ends mode o ≡ false → IsEnd mode o → ⊥
no_end mode o e h = absurd (cc)

good_end : (mode : Mode) (o : List Bracket) (now : List Symbol) → Good mode o now → IsEnd mode o → (t : Written) × IsWritten now t
good_end After [] now g e = let t = g.row_is in (t.0, (t.1, g.split ∙ ap (λ x. x ++ g.row) g.opens ∙ t.3))
good_end After (b ∷ o) now g e = absurd (cc)
good_end _ [] now g e = absurd (cc)
good_end _ (b ∷ o) now g e = absurd (cc)

good_run : (ts : List Symbol) (mode : Mode) (o : List Bracket) (now : List Symbol) → Good mode o now → EndsScan (run mode o ts) → (t : Written) × IsWritten (now ++ ts) t
good_run [] mode o now g e = let r = good_end mode o now g e in (r.0, rw append-nil r.1)
good_run (s ∷ ts) mode o now g e =
    let r = go (λ m o. good_run ts m o (now ++ s ∷ [])) (step_of mode o (class_of s)) (good_step mode o s now g) e in
    (r.0, rw append_assoc at r.1)
  where
    go : ((m : Mode) (o : List Bracket) → Good m o (now ++ s ∷ []) → EndsScan (run m o ts) → (t : Written) × IsWritten ((now ++ s ∷ []) ++ ts) t) → (x : Option State) → GoodState (now ++ s ∷ []) x → EndsScan (option_and_then (λ x. run x.0 x.1 ts) x) → (t : Written) × IsWritten ((now ++ s ∷ []) ++ ts) t
    go rest None h k = absurd k
    go rest (Some x) h k = rest x.0 x.1 h k

pub written : (ts : List Symbol) → run Operand [] ts ≡ Some (After, []) → (t : Written) × IsWritten ts t
written ts e = good_run ts Operand [] [] (record { below = []; row = []; split = refl; opens = refl; row_is = λ u k j. (u, k, tt, refl) }) (subst EndsScan (sym e) refl)
