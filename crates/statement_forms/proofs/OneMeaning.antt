-- A statement has at most one meaning.
use Rattle.std.proofs.Common.{◌≡◌, ℕ, List, [], ◌∷◌, take, drop, refl, sym, ap, ◌∙◌, subst, codes, Option, Some, None, Bool, true, false, inl, inr}
use Rattle.vb_tree.specs.declared.token.Suffix.{Suffix}
use Rattle.vb_tree.specs.declared.token.Token.{Token}
use Rattle.vb_tree.specs.Tree.{Exp, ReDimItem, Form}
use Rattle.vb_tree.specs.Expressions.{IsExpression}
use Rattle.vb_exprs.proofs.OneForm.{one_expression}
use Rattle.form_parts.specs.declared.cuts.Separator.TheVariants as sep
use Rattle.form_parts.specs.Arguments.{Argument, IsArgument}
use Rattle.form_parts.specs.Cases.{IsCaseItem}
use Rattle.form_parts.specs.Chains.{IsTarget, IsCallee}
use Rattle.form_parts.specs.Cuts.{parted, pieces, Each}
use Rattle.form_parts.specs.Redims.{IsReDimItem}
use Rattle.form_parts.proofs.Joining.{one_joined, joined_not_whole, to_joint, step_joint}
use Rattle.form_parts.proofs.OnePart.{one_each, one_target, one_callee, one_pair, one_argument, one_case, one_redim}
use Rattle.form_parts.proofs.Redimming.{one_length}
use Rattle.statement_forms.specs.Fronts.{behind_key, is_found, past_word, before_then, before_semicolon, behind_debug, has_column, each_parts, mid_list}
use Rattle.statement_forms.specs.LineForms.{print_items, print_kept, replacement, assignment, setting, calling, block_if, else_if, words_alone, select_head, case_items, counting, for_each_item, next_end, do_while_head, do_until_head, loop_while_end, loop_until_end, while_line, with_line, jump, error_jump, resumption, redimming, erasing, kept_words, computed_jump, invocation, drawing, Behind, IsHeaded, IsHeadedTwice, IsEnclosed, AreSides, AreArrays, IsLimit, IsLimitFrom, IsRange, Counting, IsCounting, IsForEach, AreItems, AreFew, IsPrinted, IsPrinting, AreArguments, IsReplacement, IsJumpFront, IsInvocation, IsDrawing, Made, Found, Kept, FormKind, Fits, FirstIn, order, IsMeant}
use Rattle.statement_forms.proofs.Drawn.{one_drawn}
use Rattle.statement_forms.proofs.Sharing.{one_front}

one_behind : {X C : Type 0} (o : Option C) (P : C → X → Type 0) → ((c : C) (x y : X) → P c x → P c y → x ≡ y) → (x y : X) → Behind o (λ z. P z x) → Behind o (λ z. P z y) → x ≡ y
one_behind None P one x y h k = absurd h
one_behind (Some c) P one x y h k = one c x y h k

pair : {A B : Type 0} (x y : A × B) → x.0 ≡ y.0 → x.1 ≡ y.1 → x ≡ y
pair x y p q = λ i. (p i, q i)

headed : (w : List ℕ) (ts : List Token) (x y : Exp) → IsHeaded w ts x → IsHeaded w ts y → x ≡ y
headed w ts = one_behind (behind_key w ts) IsExpression one_expression

headed_twice : (v w : List ℕ) (ts : List Token) (x y : Exp) → IsHeadedTwice v w ts x → IsHeadedTwice v w ts y → x ≡ y
headed_twice v w ts = one_behind (behind_key v ts) (IsHeaded w) (headed w)

enclosed : (w : List ℕ) (ts : List Token) (x y : Exp) → IsEnclosed w ts x → IsEnclosed w ts y → x ≡ y
enclosed w ts = one_behind (behind_key w ts) (λ rest e. Behind (before_then rest) (λ inner. IsExpression inner e)) (λ rest. one_behind (before_then rest) IsExpression one_expression)

sides : (ts : List Token) (x y : Exp × Exp) → AreSides ts x → AreSides ts y → x ≡ y
sides ts = one_behind (parted sep.Equal ts) (λ p x. IsTarget p.0 x.0 × IsExpression p.1 x.1) (λ p x y h k. pair x y (one_target p.0 x.0 y.0 h.0 k.0) (one_expression p.1 x.1 y.1 h.1 k.1))

arrays : (ts : List Token) (x y : Bool × List ReDimItem) → AreArrays ts x → AreArrays ts y → x ≡ y
arrays ts = one_behind (behind_key (codes "redim") ts) (λ rest x. (x.0 ≡ is_found (behind_key (codes "preserve") rest)) × Each IsReDimItem (pieces sep.Comma (past_word (codes "preserve") rest)) x.1)
    (λ rest x y h k. pair x y (h.0 ∙ sym k.0) (one_each IsReDimItem one_redim (pieces sep.Comma (past_word (codes "preserve") rest)) x.1 y.1 h.1 k.1))

limit_from : (ts : List Token) (l : Exp) (s : Option Exp) (m : Exp) (t : Option Exp) → IsLimitFrom ts l s → IsLimitFrom ts m t → (l ≡ m) × (s ≡ t)
limit_from ts l None m None h k = (one_expression ts l m h k, refl)
limit_from ts l None m (Some t) h k = absurd (joined_not_whole (codes "step") ts k.0 k.1 step_joint k.2 l h)
limit_from ts l (Some s) m None h k = absurd (joined_not_whole (codes "step") ts h.0 h.1 step_joint h.2 m k)
limit_from ts l (Some s) m (Some t) h k =
    let same = one_joined (codes "step") ts h.0 h.1 k.0 k.1 step_joint h.2 k.2 in
    let e = one_pair h.0 h.1 k.0 k.1 l s m t same h.3 h.4 k.3 k.4 in
    (e.0, ap Some e.1)

limit : (ts : List Token) (x y : Exp × Option Exp) → IsLimit ts x → IsLimit ts y → x ≡ y
limit ts x y h k = let e = limit_from ts x.0 x.1 y.0 y.1 h k in pair x y e.0 e.1

range : (ts : List Token) (x y : Exp × (Exp × Option Exp)) → IsRange ts x → IsRange ts y → x ≡ y
range ts x y h k =
    let same = one_joined (codes "to") ts h.0 h.1 k.0 k.1 to_joint h.2 k.2 in
    pair x y (one_expression k.0 x.0 y.0 (subst (λ z. IsExpression z x.0) same.0 h.3) k.3) (limit k.1 x.1 y.1 (subst (λ z. IsLimit z x.1) same.1 h.4) k.4)

counted : (ts : List Token) (x y : Counting) → IsCounting ts x → IsCounting ts y → x ≡ y
counted ts = one_behind (behind_key (codes "for") ts) (λ rest x. Behind (parted sep.Equal rest) (λ p. IsTarget p.0 x.0 × IsRange p.1 x.1))
    (λ rest. one_behind (parted sep.Equal rest) (λ p x. IsTarget p.0 x.0 × IsRange p.1 x.1) (λ p x y h k. pair x y (one_target p.0 x.0 y.0 h.0 k.0) (range p.1 x.1 y.1 h.1 k.1)))

for_each : (ts : List Token) (x y : (List ℕ × Suffix) × Exp) → IsForEach ts x → IsForEach ts y → x ≡ y
for_each ts = one_behind (each_parts ts) (λ p x. (p.0 ≡ x.0) × IsExpression p.1 x.1) (λ p x y h k. pair x y (sym h.0 ∙ k.0) (one_expression p.1 x.1 y.1 h.1 k.1))

items : (ts : List Token) (x y : List Exp) → AreItems ts x → AreItems ts y → x ≡ y
items [] x y h k = h ∙ sym k
items (t ∷ ts) x y h k = one_each IsExpression one_expression (pieces sep.Semicolon (t ∷ ts)) x y h k

few : (ts : List Token) (ended : Bool) (x y : List Exp × Bool) → AreFew ts ended x → AreFew ts ended y → x ≡ y
few ts ended x y h k = pair x y (items ts x.0 y.0 h.0 k.0) (h.1 ∙ sym k.1)

printed : (o : Option (List Token)) (ts : List Token) (x y : List Exp × Bool) → IsPrinted o ts x → IsPrinted o ts y → x ≡ y
printed None ts x y h k = few ts false x y h k
printed (Some front) ts x y h k = few front true x y h k

printing : (ts : List Token) (x y : List Exp × Bool) → IsPrinting ts x → IsPrinting ts y → x ≡ y
printing ts = one_behind (behind_debug (codes "print") ts) (λ rest x. (has_column false rest ≡ false) × IsPrinted (before_semicolon rest) rest x) (λ rest x y h k. printed (before_semicolon rest) rest x y h.1 k.1)

arguments : (ts : List Token) (x y : List Argument) → AreArguments ts x → AreArguments ts y → x ≡ y
arguments [] x y h k = h ∙ sym k
arguments (t ∷ ts) x y h k = one_each IsArgument one_argument (pieces sep.Comma (t ∷ ts)) x y h k

replaced : (ts : List Token) (x y : List Argument) → IsReplacement ts x → IsReplacement ts y → x ≡ y
replaced ts = one_behind (parted sep.Equal ts) (λ p x. Behind (mid_list p.0) (λ inside. AreArguments inside x)) (λ p. one_behind (mid_list p.0) AreArguments arguments)

jump_front : (ts : List Token) (x y : Exp) → IsJumpFront ts x → IsJumpFront ts y → x ≡ y
jump_front ts x y h k = one_expression k.0 x y (subst (λ z. IsExpression z x) (one_front ts h.0 h.1.0 k.0 k.1.0 h.1.1 k.1.1) h.2) k.2

invoked : (ts : List Token) (x y : Exp × List Argument) → IsInvocation ts x → IsInvocation ts y → x ≡ y
invoked ts x y h k =
    let n = one_length ts h.0 k.0 h.1 k.1 in
    pair x y (one_callee (take k.0 ts) x.0 y.0 (subst (λ z. IsCallee (take z ts) x.0) n h.2) k.2) (arguments (drop k.0 ts) x.1 y.1 (subst (λ z. AreArguments (drop z ts) x.1) n h.3) k.3)

drawn : (ts : List Token) (x y : Exp) → IsDrawing ts x → IsDrawing ts y → x ≡ y
drawn ts x y h k =
    let n = one_drawn ts h.0 k.0 h.1 k.1 in
    one_callee (take k.0 ts) x y (subst (λ z. IsCallee (take z ts) x) n h.2) k.2

module _ (f g : Form) (n m : ℕ) where
  made : {X : Type 0} (Is : X → Type 0) (form : X → Form) (depth : X → ℕ) → ((x y : X) → Is x → Is y → x ≡ y) → Made Is form depth f n → Made Is form depth g m → (f ≡ g) × (n ≡ m)
  made Is form depth one p q =
      let e = one p.0 q.0 p.1 q.1 in
      (p.2 ∙ ap form e ∙ sym q.2, p.3 ∙ ap depth e ∙ sym q.3)

  found : (o : Option Form) → Found o f n → Found o g m → (f ≡ g) × (n ≡ m)
  found o p q = let e : ◌≡◌ {A = Option Form} (Some f) (Some g) = sym p.0 ∙ q.0 in let i : f ≡ g = cc in (i, p.1 ∙ sym q.1)

  kept : (b : Bool) (ts : List Token) → Kept b ts f n → Kept b ts g m → (f ≡ g) × (n ≡ m)
  kept b ts p q = (p.1 ∙ sym q.1, p.2 ∙ sym q.2)

  pub one_fit : (k : FormKind) (ts : List Token) → Fits k ts f n → Fits k ts g m → (f ≡ g) × (n ≡ m)
  one_fit print_items ts = made _ _ _ (printing ts)
  one_fit print_kept ts = kept _ ts
  one_fit replacement ts = made _ _ _ (replaced ts)
  one_fit assignment ts = made _ _ _ (sides (past_word (codes "let") ts))
  one_fit setting ts = made _ _ _ (one_behind (behind_key (codes "set") ts) AreSides sides)
  one_fit calling ts = made _ _ _ (one_behind (behind_key (codes "call") ts) IsTarget one_target)
  one_fit block_if ts = made _ _ _ (enclosed (codes "if") ts)
  one_fit else_if ts = made _ _ _ (enclosed (codes "elseif") ts)
  one_fit words_alone ts = found _
  one_fit select_head ts = made _ _ _ (headed_twice (codes "select") (codes "case") ts)
  one_fit case_items ts = made _ _ _ (one_behind (behind_key (codes "case") ts) (λ rest. Each IsCaseItem (pieces sep.Comma rest)) (λ rest. one_each IsCaseItem one_case (pieces sep.Comma rest)))
  one_fit counting ts = made _ _ _ (counted ts)
  one_fit for_each_item ts = made _ _ _ (for_each ts)
  one_fit next_end ts = found _
  one_fit do_while_head ts = made _ _ _ (headed_twice (codes "do") (codes "while") ts)
  one_fit do_until_head ts = made _ _ _ (headed_twice (codes "do") (codes "until") ts)
  one_fit loop_while_end ts = made _ _ _ (headed_twice (codes "loop") (codes "while") ts)
  one_fit loop_until_end ts = made _ _ _ (headed_twice (codes "loop") (codes "until") ts)
  one_fit while_line ts = made _ _ _ (headed (codes "while") ts)
  one_fit with_line ts = made _ _ _ (headed (codes "with") ts)
  one_fit jump ts = found _
  one_fit error_jump ts = found _
  one_fit resumption ts = found _
  one_fit redimming ts = made _ _ _ (arrays ts)
  one_fit erasing ts = made _ _ _ (one_behind (behind_key (codes "erase") ts) IsCallee one_callee)
  one_fit kept_words ts = kept _ ts
  one_fit computed_jump ts = made _ _ _ (one_behind (behind_key (codes "on") ts) IsJumpFront jump_front)
  one_fit invocation ts = made _ _ _ (invoked ts)
  one_fit drawing ts = made _ _ _ (drawn ts)

  first_once : (ks : List FormKind) (ts : List Token) → FirstIn ks ts f n → FirstIn ks ts g m → (f ≡ g) × (n ≡ m)
  first_once [] ts h k = absurd h
  first_once (a ∷ ks) ts (inl h) (inl k) = one_fit a ts h k
  first_once (a ∷ ks) ts (inl h) (inr k) = absurd (k.0 f n h)
  first_once (a ∷ ks) ts (inr h) (inl k) = absurd (h.0 g m k)
  first_once (a ∷ ks) ts (inr h) (inr k) = first_once ks ts h.1 k.1

pub one_meaning : (ts : List Token) (f g : Form) (n m : ℕ) → IsMeant ts f n → IsMeant ts g m → (f ≡ g) × (n ≡ m)
one_meaning ts f g n m h k = first_once f g n m order ts h k
