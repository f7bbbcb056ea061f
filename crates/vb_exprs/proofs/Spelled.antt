-- The scan goes through each expression.
use Rattle.std.proofs.Common.{◌≡◌, ◌≤◌, List, [], ◌∷◌, ◌++◌, refl, sym, ap, ◌∙◌, subst, arith, append_assoc, append-nil, Option, Some, None, option_and_then, IsTrue}
use Rattle.vb_tree.specs.declared.expression.BinOp.{BinOp}
use Rattle.vb_tree.specs.declared.expression.BinOp.TheVariants.{Is}
use Rattle.vb_tree.specs.Expressions.{Symbol, leaf, literal, naming, constant, self, new_word, type_of_word, address_of_word, by_val_word, not_word, operator, reserved_word, access, opening, closing, comma, assign, hash, other, IsWord, Naming, Written, simple, implicit, creation, address, type_test, paren, unary, binary, member, index, WrittenType, single, dotted, IsType, WrittenArgs, no_args, arg, WrittenValue, omitted, given, Mark, by_val, number_sign, negation, complement, spelling, type_spelling, args_spelling, more_spelling, value_spelling, name_spelling, mark_spelling, end_level, IsGrouped, AreGrouped, IsArgument}
use Rattle.vb_exprs.specs.declared.scan.Mode.{Mode}
use Rattle.vb_exprs.specs.declared.scan.Mode.TheVariants as m
use Rattle.vb_exprs.specs.declared.scan.Bracket.{Bracket}
use Rattle.vb_exprs.specs.declared.scan.Bracket.TheVariants as b
use Rattle.vb_exprs.specs.TokenClass.{class_of}
use Rattle.vb_exprs.specs.Scan.{State, run, ends, word_step, prefix_step, operator_step}
use Rattle.vb_exprs.specs.Reading.{EndsArgument, IsWritten}
use Rattle.vb_exprs.proofs.Spines.{level_bounds}

abbrev pub IsEnd : Mode → List Bracket → Type 0
IsEnd mode brackets = IsTrue (ends mode brackets)

abbrev pub EndsScan : Option State → Type 0
EndsScan None = ⊥
EndsScan (Some s) = IsEnd s.0 s.1

-- an operand of TypeOf has no operator
abbrev pub Allowed : List Bracket → Written → Type 0
Allowed (b.TypeTest ∷ o) t = end_level t ≤ 0
Allowed _ t = Unit {0}

pub ended : (o : List Bracket) (t : Written) → end_level t ≤ 0 → Allowed o t
ended [] t h = tt
ended (b.TypeTest ∷ o) t h = h
ended (b.Group ∷ o) t h = tt
ended (b.Arguments ∷ o) t h = tt

inside : (o : List Bracket) (t u : Written) → Allowed o t → 1 ≤ end_level t → Allowed o u
inside [] t u h k = tt
inside (b.TypeTest ∷ o) t u h k = absurd (omega arith)
inside (b.Group ∷ o) t u h k = tt
inside (b.Arguments ∷ o) t u h k = tt

prefix_steps : (o : List Bracket) (t : Written) → Allowed o t → 1 ≤ end_level t → prefix_step o ≡ Some (m.Operand, o)
prefix_steps [] t h k = refl
prefix_steps (b.TypeTest ∷ o) t h k = absurd (omega arith)
prefix_steps (b.Group ∷ o) t h k = refl
prefix_steps (b.Arguments ∷ o) t h k = refl

operator_steps : (o : List Bracket) (op : BinOp) (t : Written) → Allowed o t → 1 ≤ end_level t → operator_step o op ≡ Some (m.Operand, o)
operator_steps [] op t h k = refl
operator_steps (b.TypeTest ∷ o) op t h k = absurd (omega arith)
operator_steps (b.Group ∷ o) op t h k = refl
operator_steps (b.Arguments ∷ o) op t h k = refl

pub word_steps : (n : Symbol) → IsWord n → (o : List Bracket) → word_step o (class_of n) ≡ Some (m.After, o)
word_steps (leaf (literal l)) h o = absurd h
word_steps (leaf (naming n)) h o = refl
word_steps (leaf (constant n s)) h o = refl
word_steps (leaf (self n)) h o = refl
word_steps (new_word n) h o = refl
word_steps (type_of_word n) h o = refl
word_steps (address_of_word n) h o = refl
word_steps (by_val_word n) h o = refl
word_steps (not_word n) h o = refl
word_steps (operator op (Some n)) h o = refl
word_steps (operator op None) h o = absurd h
word_steps (reserved_word n) h o = refl
word_steps (access bang) h o = absurd h
word_steps opening h o = absurd h
word_steps closing h o = absurd h
word_steps comma h o = absurd h
word_steps assign h o = absurd h
word_steps hash h o = absurd h
word_steps other h o = absurd h

-- the symbols begin neither as a named nor as a marked argument, nor end at once
abbrev pub IsValueStart : List Symbol → Type 0
IsValueStart [] = ⊥
IsValueStart (by_val_word w ∷ ts) = ⊥
IsValueStart (hash ∷ ts) = ⊥
IsValueStart (comma ∷ ts) = ⊥
IsValueStart (closing ∷ ts) = ⊥
IsValueStart (leaf (naming n) ∷ []) = ⊥
IsValueStart (leaf (naming n) ∷ assign ∷ ts) = ⊥
IsValueStart (leaf (naming n) ∷ t ∷ ts) = Unit {0}
IsValueStart (t ∷ ts) = Unit {0}

value_start : (ts rest : List Symbol) → EndsScan (run m.Operand [] ts) → EndsArgument rest → IsValueStart (ts ++ rest)
value_start [] rest e h = absurd (false_is_no_end e)
  where
    false_is_no_end : IsEnd m.Operand [] → ⊥
    false_is_no_end e = absurd (cc)
value_start (by_val_word w ∷ ts) rest e h = e
value_start (hash ∷ ts) rest e h = e
value_start (comma ∷ ts) rest e h = e
value_start (closing ∷ ts) rest e h = e
value_start (leaf (naming n) ∷ []) [] e h = h
value_start (leaf (naming n) ∷ []) (assign ∷ rest) e h = h
value_start (leaf (naming n) ∷ []) (t ∷ rest) e h = tt
value_start (leaf (naming n) ∷ assign ∷ ts) rest e h = e
value_start (leaf (naming n) ∷ t ∷ ts) rest e h = tt
value_start (t ∷ ts) rest e h = tt

-- the first symbol of a value is read as an operand's
run_argument : (ts : List Symbol) (o : List Bracket) → IsValueStart ts → run m.Argument o ts ≡ run m.Operand o ts
run_argument [] o h = absurd h
run_argument (by_val_word w ∷ ts) o h = absurd h
run_argument (hash ∷ ts) o h = absurd h
run_argument (comma ∷ ts) o h = absurd h
run_argument (closing ∷ ts) o h = absurd h
run_argument (leaf (naming n) ∷ []) o h = absurd h
run_argument (leaf (naming n) ∷ assign ∷ ts) o h = absurd h
run_argument (leaf (naming n) ∷ leaf (literal l) ∷ ts) o h = refl
run_argument (leaf (naming n) ∷ leaf (naming k) ∷ ts) o h = refl
run_argument (leaf (naming n) ∷ leaf (constant k s) ∷ ts) o h = refl
run_argument (leaf (naming n) ∷ leaf (self k) ∷ ts) o h = refl
run_argument (leaf (naming n) ∷ t ∷ ts) o h = refl
run_argument (leaf (literal l) ∷ ts) o h = refl
run_argument (leaf (constant n s) ∷ ts) o h = refl
run_argument (leaf (self n) ∷ ts) o h = refl
run_argument (t ∷ ts) o h = refl

run_value_mode : (ts : List Symbol) (o : List Bracket) → IsValueStart ts → run m.Value o ts ≡ run m.Operand o ts
run_value_mode [] o h = absurd h
run_value_mode (by_val_word w ∷ ts) o h = absurd h
run_value_mode (hash ∷ ts) o h = absurd h
run_value_mode (leaf (literal l) ∷ ts) o h = refl
run_value_mode (leaf (naming n) ∷ ts) o h = refl
run_value_mode (leaf (constant n s) ∷ ts) o h = refl
run_value_mode (leaf (self n) ∷ ts) o h = refl
run_value_mode (t ∷ ts) o h = refl

run_tail : (tail : List Symbol) (o : List Bracket) → EndsArgument tail → run m.Argument (b.Arguments ∷ o) tail ≡ run m.After (b.Arguments ∷ o) tail
run_tail (comma ∷ ts) o h = refl
run_tail (closing ∷ ts) o h = refl
run_tail [] o h = absurd h
run_tail (_ ∷ ts) o h = absurd h

run_type : (ty : WrittenType) → IsType ty → (o : List Bracket) (more : List Symbol) → run m.Name o (type_spelling ty ++ more) ≡ run m.After o more
run_type (single n) h o more = refl
run_type (dotted n part) h o more = ap (option_and_then (λ x. run x.0 x.1 more)) (word_steps part h.0 o)

pub ends_more : (rest : WrittenArgs) (more : List Symbol) → EndsArgument (more_spelling rest ++ closing ∷ more)
ends_more no_args more = tt
ends_more (arg name mark value rest) more = tt

pub argument_assoc : (name : Option Naming) (mark : Option Mark) (value : List Symbol) (rest more : List Symbol) → (name_spelling name ++ (mark_spelling mark ++ (value ++ rest))) ++ more ≡ name_spelling name ++ (mark_spelling mark ++ (value ++ (rest ++ more)))
argument_assoc name mark value rest more = simp append_assoc

mutual
  -- an expression takes the scan from where an operand may come to its end
  pub run_spelling : (t : Written) → IsGrouped t → (o : List Bracket) → Allowed o t → (more : List Symbol) → run m.Operand o (spelling t ++ more) ≡ run m.After o more
  run_spelling (simple (literal l)) g o a more = refl
  run_spelling (simple (naming n)) g o a more = refl
  run_spelling (simple (constant n s)) g o a more = refl
  run_spelling (simple (self n)) g o a more = refl
  run_spelling (implicit bang n) g o a more = ap (option_and_then (λ x. run x.0 x.1 more)) (word_steps n g o)
  run_spelling (creation w ty) g o a more = run_type ty g o more
  run_spelling (address w n) g o a more = refl
  run_spelling (type_test w t is ty) g o a more =
      ap (run m.Operand (b.TypeTest ∷ o)) (append_assoc (spelling t) (operator Is is ∷ type_spelling ty) more)
      ∙ run_spelling t g.0 (b.TypeTest ∷ o) g.1 (operator Is is ∷ (type_spelling ty ++ more))
      ∙ run_type ty g.2 o more
  run_spelling (paren t) g o a more =
      ap (run m.Operand (b.Group ∷ o)) (append_assoc (spelling t) (closing ∷ []) more) ∙ run_spelling t g (b.Group ∷ o) tt (closing ∷ more)
  run_spelling (unary negation t) g o a more =
      ap (option_and_then (λ x. run x.0 x.1 (spelling t ++ more))) (prefix_steps o (unary negation t) a (omega arith))
      ∙ run_spelling t g.0 o (inside o (unary negation t) t a (omega arith)) more
  run_spelling (unary (complement w) t) g o a more =
      ap (option_and_then (λ x. run x.0 x.1 (spelling t ++ more))) (prefix_steps o (unary (complement w) t) a (omega arith))
      ∙ run_spelling t g.0 o (inside o (unary (complement w) t) t a (omega arith)) more
  run_spelling (binary op w l r) g o a more =
      let high : 1 ≤ end_level (binary op w l r) = omega (arith, level_bounds op) in
      ap (run m.Operand o) (append_assoc (spelling l) (operator op w ∷ spelling r) more)
      ∙ run_spelling l g.0 o (inside o (binary op w l r) l a high) (operator op w ∷ (spelling r ++ more))
      ∙ ap (option_and_then (λ x. run x.0 x.1 (spelling r ++ more))) (operator_steps o op (binary op w l r) a high)
      ∙ run_spelling r g.1 o (inside o (binary op w l r) r a high) more
  run_spelling (member t bang n) g o a more =
      ap (run m.Operand o) (append_assoc (spelling t) (access bang ∷ n ∷ []) more)
      ∙ run_spelling t g.0 o (ended o t g.1) (access bang ∷ n ∷ more)
      ∙ ap (option_and_then (λ x. run x.0 x.1 more)) (word_steps n g.2 o)
  run_spelling (index t args) g o a more =
      ap (run m.Operand o) (append_assoc (spelling t) (opening ∷ (args_spelling args ++ closing ∷ [])) more)
      ∙ run_spelling t g.0 o (ended o t g.1) (opening ∷ ((args_spelling args ++ closing ∷ []) ++ more))
      ∙ ap (run m.Argument (b.Arguments ∷ o)) (append_assoc (args_spelling args) (closing ∷ []) more)
      ∙ run_args args g.2 o more

  run_args : (args : WrittenArgs) → AreGrouped args → (o : List Bracket) (more : List Symbol) → run m.Argument (b.Arguments ∷ o) (args_spelling args ++ closing ∷ more) ≡ run m.After o more
  run_args no_args g o more = refl
  run_args (arg name mark value rest) g o more =
      ap (run m.Argument (b.Arguments ∷ o)) (argument_assoc name mark (value_spelling value) (more_spelling rest) (closing ∷ more))
      ∙ run_value value name mark g.0 o (more_spelling rest ++ closing ∷ more) (ends_more rest more)
      ∙ run_more rest g.1 o more

  run_more : (args : WrittenArgs) → AreGrouped args → (o : List Bracket) (more : List Symbol) → run m.After (b.Arguments ∷ o) (more_spelling args ++ closing ∷ more) ≡ run m.After o more
  run_more no_args g o more = refl
  run_more (arg name mark value rest) g o more =
      ap (run m.Argument (b.Arguments ∷ o)) (argument_assoc name mark (value_spelling value) (more_spelling rest) (closing ∷ more))
      ∙ run_value value name mark g.0 o (more_spelling rest ++ closing ∷ more) (ends_more rest more)
      ∙ run_more rest g.1 o more

  run_value : (value : WrittenValue) (name : Option Naming) (mark : Option Mark) → IsArgument name mark value → (o : List Bracket) (tail : List Symbol) → EndsArgument tail → run m.Argument (b.Arguments ∷ o) (name_spelling name ++ (mark_spelling mark ++ (value_spelling value ++ tail))) ≡ run m.After (b.Arguments ∷ o) tail
  run_value omitted None None g o tail h = run_tail tail o h
  run_value omitted None (Some k) g o tail h = absurd g
  run_value omitted (Some n) mark g o tail h = absurd g
  run_value (given t) None None g o tail h =
      run_argument (spelling t ++ tail) (b.Arguments ∷ o) (value_start (spelling t) tail (subst EndsScan (sym (ap (run m.Operand []) (sym (append-nil (spelling t))) ∙ run_spelling t g [] tt [])) refl) h)
      ∙ run_spelling t g (b.Arguments ∷ o) tt tail
  run_value (given t) None (Some (by_val w)) g o tail h = run_spelling t g (b.Arguments ∷ o) tt tail
  run_value (given t) None (Some number_sign) g o tail h = run_spelling t g (b.Arguments ∷ o) tt tail
  run_value (given t) (Some n) None g o tail h =
      run_value_mode (spelling t ++ tail) (b.Arguments ∷ o) (value_start (spelling t) tail (subst EndsScan (sym (ap (run m.Operand []) (sym (append-nil (spelling t))) ∙ run_spelling t g [] tt [])) refl) h)
      ∙ run_spelling t g (b.Arguments ∷ o) tt tail
  run_value (given t) (Some n) (Some (by_val w)) g o tail h = run_spelling t g (b.Arguments ∷ o) tt tail
  run_value (given t) (Some n) (Some number_sign) g o tail h = run_spelling t g (b.Arguments ∷ o) tt tail

pub accepted : (ts : List Symbol) (t : Written) → IsWritten ts t → run m.Operand [] ts ≡ Some (m.After, [])
accepted ts t h = ap (run m.Operand []) (h.1 ∙ sym (append-nil (spelling t))) ∙ run_spelling t h.0 [] tt []

-- a value begins as one
pub starts_value : (t : Written) (rest : List Symbol) → IsGrouped t → EndsArgument rest → IsValueStart (spelling t ++ rest)
starts_value t rest g h = value_start (spelling t) rest (subst EndsScan (sym (accepted (spelling t) t (g, refl))) refl) h
