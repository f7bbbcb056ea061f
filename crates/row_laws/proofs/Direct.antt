-- What is written for an operator on operands of the row's types is the row of it.
use Rattle.std.proofs.Common.{◌≡◌, Bool, true, false, cond, ◌&&◌, ◌||◌, Option, Some, None, IfSome, refl, ap, ◌∙◌}
use Rattle.up_base.proofs.Tests.{and_true}
use Rattle.vb_tree.specs.BoundTree as types
use Rattle.vb_tree.specs.BoundTree.{Ty}
use Rattle.vb_tree.specs.declared.expression.BinOp.{BinOp}
use Rattle.vb_tree.specs.declared.expression.BinOp.TheVariants as b
use Rattle.vb_tree.specs.declared.expression.UnOp.{UnOp}
use Rattle.vb_tree.specs.declared.expression.UnOp.TheVariants as u
use Rattle.vb6_meaning.specs.declared.number.NumberKind.{NumberKind}
use Rattle.vb6_meaning.specs.declared.number.NumberKind.TheVariants as kinds
use Rattle.vb6_meaning.specs.Kinds.{wider, whole, is_byte}
use Rattle.vb6_meaning.specs.Values.{are_currencies}
use Rattle.net_tree.specs.declared.expression.CastWord.TheVariants as word
use Rattle.net_tree.specs.declared.expression.NetBin.{NetBin}
use Rattle.net_tree.specs.declared.expression.NetBin.TheVariants as op
use Rattle.net_tree.specs.declared.expression.NetUn.TheVariants as un
use Rattle.net_tree.specs.Tree.{Exp}
use Rattle.net_tree.specs.Tree as net
use Rattle.net_meaning.specs.WrittenRows.{Row, operand_a, operand_b, cast, call, cur, cur_text, Written, written, kind_of, type_of_kind, word_of_kind, is_of_kind, as_kind, on_kinds, on_numbers, both_as, as_text, joined_rows, write_operator, write_unary, negated, turned}
use Rattle.net_meaning.specs.WrittenRows as row
use Rattle.bound_tree.specs.Tree.{Term, typed}
use Rattle.written_trees.specs.Literals.{literal_of}
use Rattle.written_trees.specs.Conversions.{converted, literal_or}
use Rattle.written_trees.specs.Operators.{typed_operator, typed_unary, is_product_in_currency}
use Rattle.written_trees.specs.Operators as tree
use Rattle.row_laws.specs.Rows.{Operand, operand_of, cast_exp, row_exp, is_direct, is_ready, is_safe, is_not, has_not, is_over_a, is_over_b, is_over_both}

-- an operand of a kind stands as it is, or is converted
abbrev taken : Bool → NumberKind → Row → Row
taken c k r = cond c r (cast (word_of_kind k) r)

module _ (P : Written → Type 0) where
  pub on_two_kinds : (f : NumberKind → NumberKind → Option Written) (k l : Option NumberKind) → ((k l : NumberKind) → IfSome (f k l) P) → IfSome (on_kinds f k l) P
  on_two_kinds f (Some k) (Some l) h = h k l
  on_two_kinds f (Some k) None h = tt
  on_two_kinds f None l h = tt

  -- one of two rows by a test
  pub by_either : (c : Bool) (w : Written) (o : Option Written) → P w → IfSome o P → IfSome (cond c (Some w) o) P
  by_either true w o h k = h
  by_either false w o h k = k

  pub if_not : (c : Bool) (o : Option Written) → IfSome o P → IfSome (cond c None o) P
  if_not true o h = tt
  if_not false o h = h

  pub if_such : (c : Bool) (w : Written) → P w → IfSome (cond c (Some w) None) P
  if_such true w h = h
  if_such false w h = tt

module _ (s : Ty) (x y : Operand) where
  -- what a row says, and that it goes from the left
  abbrev pub Is : Exp → Row → Type 0
  Is e r = (e ≡ row_exp r x y) × (is_over_both s r ≡ true)

  abbrev pub Says : (Ty → Exp) → Written → Type 0
  Says e w = is_direct w.row ≡ true → Is (e w.ty) w.row

  pair : (o : NetBin) (k : NumberKind) (c d : Bool) → is_direct (row.binary o (taken c k operand_a) (taken d k operand_b)) ≡ true
      → Is (net.binary o x.exp y.exp) (row.binary o (taken c k operand_a) (taken d k operand_b))
  pair o k true true h = (refl, refl)
  pair o k true false h = absurd (cc h)
  pair o k false true h = absurd (cc h)
  pair o k false false h = absurd (cc h)

  checked_pair : (o : NetBin) (k : NumberKind) (c d : Bool) → is_direct (row.checked k (row.binary o (taken c k operand_a) (taken d k operand_b))) ≡ true
      → Is (tree.checked (type_of_kind k) (net.binary o x.exp y.exp)) (row.checked k (row.binary o (taken c k operand_a) (taken d k operand_b)))
  checked_pair o kinds.Byte c d h = pair o kinds.Byte c d h
  checked_pair o kinds.Integer c d h = pair o kinds.Integer c d h
  checked_pair o kinds.Long c d h = pair o kinds.Long c d h
  checked_pair o kinds.Currency true true h = (refl, refl)
  checked_pair o kinds.Currency true false h = absurd (cc h)
  checked_pair o kinds.Currency false true h = absurd (cc h)
  checked_pair o kinds.Currency false false h = absurd (cc h)

  arithmetic : (o : NetBin) (t : Ty) → IfSome (on_numbers (row.arithmetic o) s t) (Says (λ ty. tree.checked ty (net.binary o x.exp y.exp)))
  arithmetic o t = on_two_kinds (Says (λ ty. tree.checked ty (net.binary o x.exp y.exp))) (row.arithmetic o s t) (kind_of s) (kind_of t)
      (λ k l h. checked_pair o (wider k l) (is_of_kind (wider k l) s) (is_of_kind (wider k l) t) h)

  division : (o : NetBin) (t : Ty) → IfSome (on_numbers (row.division o) s t) (Says (λ ty. net.binary o x.exp y.exp))
  division o t = on_two_kinds (Says (λ ty. net.binary o x.exp y.exp)) (row.division o s t) (kind_of s) (kind_of t)
      (λ k l h. pair o (whole (wider k l)) (is_of_kind (whole (wider k l)) s) (is_of_kind (whole (wider k l)) t) h)

  comparison : (o : NetBin) (t : Ty) → IfSome (row.comparison o s t) (Says (λ ty. net.binary o x.exp y.exp))
  comparison o t =
      by_either (Says (λ ty. net.binary o x.exp y.exp)) (row.is_text s && row.is_text t || row.is_boolean s && row.is_boolean t)
      (record { ty = types.boolean; row = row.binary o operand_a operand_b }) (on_numbers (row.compared o) s t) (λ h. (refl, refl))
      (on_two_kinds (Says (λ ty. net.binary o x.exp y.exp)) (row.compared o s t) (kind_of s) (kind_of t)
      (λ k l h. pair o (wider k l) (is_of_kind (wider k l) s) (is_of_kind (wider k l) t) h))

  same_object : (t : Ty) → IfSome (row.same_object s t) (Says (λ ty. net.binary op.Is x.exp y.exp))
  same_object t =
      if_such (Says (λ ty. net.binary op.Is x.exp y.exp)) (row.is_reference s && row.is_reference t)
      (record { ty = types.boolean; row = row.binary op.Is operand_a operand_b }) (λ h. (refl, refl))

  -- ---- sums of texts, and texts that are joined

  text_sum : (c : Bool) → tree.is_text s ≡ true → IfSome (cond (true && c) (written types.str (row.binary op.Concat operand_a operand_b)) None) (Says (λ ty. tree.sum s ty x.exp y.exp))
  text_sum true e = λ h. (ap (λ z. cond z (net.binary op.Concat x.exp y.exp) (net.binary op.Add x.exp y.exp)) e, refl)
  text_sum false e = tt

  abbrev pub Joined : Option Written → Type 0
  Joined o = IfSome o (Says (λ ty. net.binary op.Concat x.exp y.exp))

  second_joined : (t : Ty) → Joined (joined_rows (Some operand_a) (as_text t operand_b))
  second_joined types.boolean = λ h. absurd (cc h)
  second_joined types.byte = λ h. absurd (cc h)
  second_joined types.integer = λ h. absurd (cc h)
  second_joined types.long = λ h. absurd (cc h)
  second_joined types.currency = λ h. absurd (cc h)
  second_joined types.str = λ h. (refl, refl)
  second_joined (types.fixed k) = λ h. (refl, refl)
  second_joined _ = tt

  first_cast : (o : Option Row) → Joined (joined_rows (Some (cast word.CStr operand_a)) o)
  first_cast None = tt
  first_cast (Some r) = λ h. absurd (cc h)

  first_called : (o : Option Row) → Joined (joined_rows (Some (call cur_text operand_a)) o)
  first_called None = tt
  first_called (Some r) = λ h. absurd (cc h)

  -- ---- logic

  abbrev pub Pairs : (Row → Row → Row) → Exp → Type 0
  Pairs f e = (k : NumberKind) (c d : Bool) → is_direct (f (taken c k operand_a) (taken d k operand_b)) ≡ true → Is e (f (taken c k operand_a) (taken d k operand_b))

  eqv_pair : Pairs row.eqv_row (tree.eqv x.exp y.exp)
  eqv_pair k c d h = let e = pair op.Xor k c d h in (ap (net.unary un.Not) e.0, e.1)

  imp_pair : has_not s ≡ true → Pairs row.imp_row (tree.imp x.exp y.exp)
  imp_pair e k true true h = (refl, ap (λ z. is_not un.Not && z && true && true) e)
  imp_pair e k true false h = absurd (cc h)
  imp_pair e k false true h = absurd (cc h)
  imp_pair e k false false h = absurd (cc h)

  logical : (f : Row → Row → Row) (e : Exp) → Is e (f operand_a operand_b) → Pairs f e → (t : Ty) → IfSome (row.logical f (row.bits f) s t) (Says (λ ty. e))
  logical f e same pairs t =
      by_either (Says (λ ty. e)) (row.is_boolean s && row.is_boolean t) (record { ty = types.boolean; row = f operand_a operand_b }) (on_numbers (row.bits f) s t) (λ h. same)
      (on_two_kinds (Says (λ ty. e)) (row.bits f s t) (kind_of s) (kind_of t) (λ k l h. pairs (whole (wider k l)) (is_of_kind (whole (wider k l)) s) (is_of_kind (whole (wider k l)) t) h))

  signed : (f : Row → Row → Row) (e : Exp) → Is e (f operand_a operand_b) → Pairs f e → (t : Ty) → IfSome (row.logical f (row.signed_bits f) s t) (Says (λ ty. e))
  signed f e same pairs t =
      by_either (Says (λ ty. e)) (row.is_boolean s && row.is_boolean t) (record { ty = types.boolean; row = f operand_a operand_b }) (on_numbers (row.signed_bits f) s t) (λ h. same)
      (on_two_kinds (Says (λ ty. e)) (row.signed_bits f s t) (kind_of s) (kind_of t)
      (λ k l. if_not (Says (λ ty. e)) (is_byte (whole (wider k l))) (row.bits f s t k l) (λ h. pairs (whole (wider k l)) (is_of_kind (whole (wider k l)) s) (is_of_kind (whole (wider k l)) t) h)))

  -- Imp of a Byte is none, and that of a Currency isn't direct
  no_imp : ((k : NumberKind) → is_byte (whole k) ≡ false → is_of_kind (whole k) s ≡ false) → (t : Ty) → IfSome (on_numbers (row.signed_bits row.imp_row) s t) (Says (λ ty. tree.imp x.exp y.exp))
  no_imp none t =
      on_two_kinds (Says (λ ty. tree.imp x.exp y.exp)) (row.signed_bits row.imp_row s t) (kind_of s) (kind_of t) (λ k l. of_kind (wider k l))
    where
      converted : (c d : Bool) (k : NumberKind) → c ≡ false → is_direct (row.imp_row (taken c k operand_a) (taken d k operand_b)) ≡ true → Is (tree.imp x.exp y.exp) (row.imp_row (taken c k operand_a) (taken d k operand_b))
      converted true d k e h = absurd (cc e)
      converted false d k e h = absurd (cc h)

      by_test : (m : NumberKind) (c : Bool) → (c ≡ false → is_of_kind m s ≡ false) → IfSome (cond c None (written (type_of_kind m) (row.imp_row (as_kind m s operand_a) (as_kind m t operand_b)))) (Says (λ ty. tree.imp x.exp y.exp))
      by_test m true e = tt
      by_test m false e = λ h. converted (is_of_kind m s) (is_of_kind m t) m (e refl) h

      of_kind : (k : NumberKind) → IfSome (cond (is_byte (whole k)) None (written (type_of_kind (whole k)) (row.imp_row (as_kind (whole k) s operand_a) (as_kind (whole k) t operand_b)))) (Says (λ ty. tree.imp x.exp y.exp))
      of_kind k = by_test (whole k) (is_byte (whole k)) (none k)

  -- ---- operators on one operand

  abbrev pub IsOne : Exp → Row → Type 0
  IsOne e r = (e ≡ row_exp r x y) × (is_over_a r ≡ true)

  abbrev pub SaysOne : (Ty → Exp) → Written → Type 0
  SaysOne e w = is_direct w.row ≡ true → IsOne (e w.ty) w.row

  minus_row : (k : NumberKind) (c : Bool) → is_direct (row.checked k (row.unary un.Neg (taken c k operand_a))) ≡ true
      → IsOne (tree.checked (type_of_kind k) (net.unary un.Neg x.exp)) (row.checked k (row.unary un.Neg (taken c k operand_a)))
  minus_row kinds.Byte true h = (refl, refl)
  minus_row kinds.Integer true h = (refl, refl)
  minus_row kinds.Long true h = (refl, refl)
  minus_row kinds.Currency true h = (refl, refl)
  minus_row kinds.Byte false h = absurd (cc h)
  minus_row kinds.Integer false h = absurd (cc h)
  minus_row kinds.Long false h = absurd (cc h)
  minus_row kinds.Currency false h = absurd (cc h)

  turned_row : (k : NumberKind) (c : Bool) → is_direct (row.unary un.Not (taken c k operand_a)) ≡ true → IsOne (net.unary un.Not x.exp) (row.unary un.Not (taken c k operand_a))
  turned_row k true h = (refl, refl)
  turned_row k false h = absurd (cc h)

  minus_by : (k : Option NumberKind) → IfSome (negated s k) (SaysOne (λ ty. tree.checked ty (net.unary un.Neg x.exp)))
  minus_by None = tt
  minus_by (Some k) =
      if_not (SaysOne (λ ty. tree.checked ty (net.unary un.Neg x.exp))) (is_byte k) (written (type_of_kind k) (row.checked k (row.unary un.Neg (as_kind k s operand_a))))
      (λ h. minus_row k (is_of_kind k s) h)

  turned_by : (k : Option NumberKind) → IfSome (turned s k) (SaysOne (λ ty. net.unary un.Not x.exp))
  turned_by None = tt
  turned_by (Some k) =
      if_not (SaysOne (λ ty. net.unary un.Not x.exp)) (is_byte k) (written (type_of_kind (whole k)) (row.unary un.Not (as_kind (whole k) s operand_a)))
      (λ h. turned_row (whole k) (is_of_kind (whole k) s) h)

  pub unary_row : (o : UnOp) → IfSome (write_unary o s) (SaysOne (λ ty. typed_unary o ty x.exp))
  unary_row u.Neg = minus_by (kind_of s)
  unary_row u.Not =
      by_either (SaysOne (λ ty. net.unary un.Not x.exp)) (row.is_boolean s) (record { ty = types.boolean; row = row.unary un.Not operand_a }) (turned s (kind_of s)) (λ h. (refl, refl))
      (turned_by (kind_of s))

-- ---- by types

module _ (x y : Operand) where
  added : (s t : Ty) → IfSome (row.added s t) (Says s x y (λ ty. tree.sum s ty x.exp y.exp))
  added types.boolean t = arithmetic types.boolean x y op.Add t
  added types.byte t = arithmetic types.byte x y op.Add t
  added types.integer t = arithmetic types.integer x y op.Add t
  added types.long t = arithmetic types.long x y op.Add t
  added types.currency t = arithmetic types.currency x y op.Add t
  added types.str t = text_sum types.str x y (row.is_text t) refl
  added (types.fixed k) t = text_sum (types.fixed k) x y (row.is_text t) refl
  added (types.user k) t = tt
  added (types.class k) t = tt
  added types.object t = tt
  added types.variant t = tt
  added (types.array e r) t = tt
  added types.nothing t = tt
  added types.unknown t = tt

  joined : (s t : Ty) → Joined s x y (row.joined s t)
  joined types.boolean t = first_cast types.boolean x y (as_text t operand_b)
  joined types.byte t = first_cast types.byte x y (as_text t operand_b)
  joined types.integer t = first_cast types.integer x y (as_text t operand_b)
  joined types.long t = first_cast types.long x y (as_text t operand_b)
  joined types.currency t = first_called types.currency x y (as_text t operand_b)
  joined types.str t = second_joined types.str x y t
  joined (types.fixed k) t = second_joined (types.fixed k) x y t
  joined (types.user k) t = tt
  joined (types.class k) t = tt
  joined types.object t = tt
  joined types.variant t = tt
  joined (types.array e r) t = tt
  joined types.nothing t = tt
  joined types.unknown t = tt

  no_byte : (k : NumberKind) → is_byte (whole k) ≡ false → is_of_kind (whole k) types.byte ≡ false
  no_byte kinds.Byte e = absurd (cc e)
  no_byte kinds.Integer e = refl
  no_byte kinds.Long e = refl
  no_byte kinds.Currency e = refl

  no_currency : (k : NumberKind) → is_byte (whole k) ≡ false → is_of_kind (whole k) types.currency ≡ false
  no_currency kinds.Byte e = absurd (cc e)
  no_currency kinds.Integer e = refl
  no_currency kinds.Long e = refl
  no_currency kinds.Currency e = refl

  implied : (s t : Ty) → IfSome (row.logical row.imp_row (row.signed_bits row.imp_row) s t) (Says s x y (λ ty. tree.imp x.exp y.exp))
  implied types.boolean t = signed types.boolean x y row.imp_row (tree.imp x.exp y.exp) (refl, refl) (imp_pair types.boolean x y refl) t
  implied types.byte t = no_imp types.byte x y no_byte t
  implied types.integer t = signed types.integer x y row.imp_row (tree.imp x.exp y.exp) (refl, refl) (imp_pair types.integer x y refl) t
  implied types.long t = signed types.long x y row.imp_row (tree.imp x.exp y.exp) (refl, refl) (imp_pair types.long x y refl) t
  implied types.currency t = no_imp types.currency x y no_currency t
  implied types.str t = tt
  implied (types.fixed k) t = tt
  implied (types.user k) t = tt
  implied (types.class k) t = tt
  implied types.object t = tt
  implied types.variant t = tt
  implied (types.array e r) t = tt
  implied types.nothing t = tt
  implied types.unknown t = tt

-- ---- products in Currency

-- a factor is converted, or its literal stands in its place
literal_same : (o : Option Exp) (a : Exp) → literal_or o (net.cast word.CDec a) ≡ cast_exp word.CDec o a
literal_same None a = refl
literal_same (Some l) a = refl

abbrev Factor : (s : Ty) → Term → Exp → Operand → Type 0
Factor s p a y =
    (converted types.currency (typed s p) a ≡ row_exp (as_kind kinds.Currency s operand_a) (operand_of (typed s p) a) y)
    × (is_safe s (as_kind kinds.Currency s operand_a) ≡ true)

first_factor : (s : Ty) (p : Term) (a : Exp) (y : Operand) (k : NumberKind) → kind_of s ≡ Some k → Factor s p a y
first_factor types.boolean p a y k e = (refl, refl)
first_factor types.byte p a y k e = (refl, refl)
first_factor types.integer p a y k e = (literal_same (literal_of types.currency p) a, refl)
first_factor types.long p a y k e = (literal_same (literal_of types.currency p) a, refl)
first_factor types.currency p a y k e = (refl, refl)
first_factor _ p a y k e = absurd (cc e)

abbrev SecondFactor : (t : Ty) → Term → Exp → Operand → Type 0
SecondFactor t q c x =
    (converted types.currency (typed t q) c ≡ row_exp (as_kind kinds.Currency t operand_b) x (operand_of (typed t q) c))
    × (is_over_b (as_kind kinds.Currency t operand_b) ≡ true)

second_factor : (t : Ty) (q : Term) (c : Exp) (x : Operand) (k : NumberKind) → kind_of t ≡ Some k → SecondFactor t q c x
second_factor types.boolean q c x k e = (refl, refl)
second_factor types.byte q c x k e = (refl, refl)
second_factor types.integer q c x k e = (literal_same (literal_of types.currency q) c, refl)
second_factor types.long q c x k e = (literal_same (literal_of types.currency q) c, refl)
second_factor types.currency q c x k e = (refl, refl)
second_factor _ q c x k e = absurd (cc e)

on_known_kinds : (P : Written → Type 0) (f : NumberKind → NumberKind → Option Written) (k l : Option NumberKind)
    → ((i j : NumberKind) → k ≡ Some i → l ≡ Some j → IfSome (f i j) P) → IfSome (on_kinds f k l) P
on_known_kinds P f (Some k) (Some l) h = h k l refl refl
on_known_kinds P f (Some k) None h = tt
on_known_kinds P f None l h = tt

module _ (s t : Ty) (p q : Term) (a c : Exp) where
  abbrev pub Ready : BinOp → Written → Type 0
  Ready o w =
      is_ready o w ≡ true
      → Is s (operand_of (typed s p) a) (operand_of (typed t q) c)
      (typed_operator o s w.ty (tree.operand (is_product_in_currency o w.ty) (typed s p) a) (tree.operand (is_product_in_currency o w.ty) (typed t q) c)) w.row

  abbrev pub x : Operand
  x = operand_of (typed s p) a

  abbrev pub y : Operand
  y = operand_of (typed t q) c

  product_of : (m : NumberKind) → Factor s p a y → SecondFactor t q c x
      → Ready b.Mul (record { ty = type_of_kind m; row = row.checked m (row.binary op.Mul (as_kind m s operand_a) (as_kind m t operand_b)) })
  product_of kinds.Byte f g h = checked_pair s x y op.Mul kinds.Byte (is_of_kind kinds.Byte s) (is_of_kind kinds.Byte t) h
  product_of kinds.Integer f g h = checked_pair s x y op.Mul kinds.Integer (is_of_kind kinds.Integer s) (is_of_kind kinds.Integer t) h
  product_of kinds.Long f g h = checked_pair s x y op.Mul kinds.Long (is_of_kind kinds.Long s) (is_of_kind kinds.Long t) h
  product_of kinds.Currency f g h = (
    ap (λ z. tree.checked types.currency (net.binary op.Mul z (converted types.currency (typed t q) c))) f.0
        ∙ ap (λ z. tree.checked types.currency (net.binary op.Mul (row_exp (as_kind kinds.Currency s operand_a) x y) z)) g.0,
    and_true (is_safe s (as_kind kinds.Currency s operand_a)) (is_over_b (as_kind kinds.Currency t operand_b)) f.1 g.1,
  )

  product : IfSome (on_numbers row.product s t) (Ready b.Mul)
  product = on_known_kinds (Ready b.Mul) (row.product s t) (kind_of s) (kind_of t)
      (λ k l e f. if_not (Ready b.Mul) (are_currencies k l) (row.arithmetic op.Mul s t k l) (product_of (wider k l) (first_factor s p a y k e) (second_factor t q c x l f)))

  -- each operator
  pub typed_row : (o : BinOp) → IfSome (write_operator o s t) (Ready o)
  typed_row b.Pow = tt
  typed_row b.Mul = product
  typed_row b.Div = tt
  typed_row b.IntDiv = division s x y op.IntDiv t
  typed_row b.Mod = division s x y op.Mod t
  typed_row b.Add = added x y s t
  typed_row b.Sub = arithmetic s x y op.Sub t
  typed_row b.Concat = joined x y s t
  typed_row b.Equal = comparison s x y op.Equal t
  typed_row b.NotEqual = comparison s x y op.NotEqual t
  typed_row b.Less = comparison s x y op.Less t
  typed_row b.Greater = comparison s x y op.Greater t
  typed_row b.LessEqual = comparison s x y op.LessEqual t
  typed_row b.GreaterEqual = comparison s x y op.GreaterEqual t
  typed_row b.Is = same_object s x y t
  typed_row b.Like = tt
  typed_row b.And = logical s x y row.and_row (net.binary op.And a c) (refl, refl) (pair s x y op.And) t
  typed_row b.Or = logical s x y row.or_row (net.binary op.Or a c) (refl, refl) (pair s x y op.Or) t
  typed_row b.Xor = logical s x y row.xor_row (net.binary op.Xor a c) (refl, refl) (pair s x y op.Xor) t
  typed_row b.Eqv = signed s x y row.eqv_row (tree.eqv a c) (refl, refl) (eqv_pair s x y) t
  typed_row b.Imp = implied x y s t
