-- What one statement of a procedure is (MS-VBAL, Statements). The form that is meant is the first one that fits in the
-- order below.
use Rattle.std.specs.Prelude.{◌≡◌, ℕ, ◌≤◌, max, List, [], ◌∷◌, length, take, drop, ◌++◌, Option, Some, None, Bool, true, false, codes, ◌⊎◌}
use Rattle.vb_tree.specs.declared.token.Suffix.{Suffix}
use Rattle.vb_tree.specs.declared.token.Token.{Token}
use Rattle.vb_tree.specs.Tree.{Exp, CaseItem, ReDimItem, Form}
use Rattle.vb_tree.specs.Tree as tree
use Rattle.vb_tree.specs.Expressions.{IsExpression, depth_of}
use Rattle.form_parts.specs.declared.cuts.Separator.TheVariants as sep
use Rattle.form_parts.specs.Cuts.{parted, pieces, Each}
use Rattle.form_parts.specs.Chains.{IsTarget, IsCallee, IsCalleeLength}
use Rattle.form_parts.specs.Parts.{IsJoined, option_depth}
use Rattle.form_parts.specs.Items.{deepest}
use Rattle.form_parts.specs.Arguments.{Argument, IsArgument, args_from, argument_depth}
use Rattle.form_parts.specs.Cases.{IsCaseItem, case_depth}
use Rattle.form_parts.specs.Redims.{IsReDimItem, redim_depth}
use Rattle.statement_forms.specs.Fronts.{behind_key, is_found, past_word, before_then, before_semicolon, words_form, jump_form, error_form, resume_form, next_form, each_parts, behind_debug, has_column, keeps, mid_list, ends_drawn}

-- a fact about what an option holds; none where it holds nothing
abbrev pub Behind : {A : Type 0} → Option A → (A → Type 0) → Type 0
Behind None P = ⊥
Behind (Some a) P = P a

-- The parts of forms.

-- the word w and an expression
abbrev pub IsHeaded : List ℕ → List Token → Exp → Type 0
IsHeaded w ts e = Behind (behind_key w ts) (λ rest. IsExpression rest e)

-- the words v and w and an expression
abbrev pub IsHeadedTwice : List ℕ → List ℕ → List Token → Exp → Type 0
IsHeadedTwice v w ts e = Behind (behind_key v ts) (λ rest. IsHeaded w rest e)

-- the word w, an expression and the word Then
abbrev pub IsEnclosed : List ℕ → List Token → Exp → Type 0
IsEnclosed w ts e = Behind (behind_key w ts) (λ rest. Behind (before_then rest) (λ inner. IsExpression inner e))

abbrev pub pair_depth : Exp × Exp → ℕ
pair_depth x = max (depth_of x.0) (depth_of x.1)

-- a target and an expression with the first `=` outside of parentheses between them
abbrev pub AreSides : List Token → Exp × Exp → Type 0
AreSides ts x = Behind (parted sep.Equal ts) (λ p. IsTarget p.0 x.0 × IsExpression p.1 x.1)

abbrev pub IsSetting : List Token → Exp × Exp → Type 0
IsSetting ts x = Behind (behind_key (codes "set") ts) (λ rest. AreSides rest x)

abbrev pub IsCalling : List Token → Exp → Type 0
IsCalling ts e = Behind (behind_key (codes "call") ts) (λ rest. IsTarget rest e)

abbrev pub IsErasing : List Token → Exp → Type 0
IsErasing ts e = Behind (behind_key (codes "erase") ts) (λ rest. IsCallee rest e)

abbrev pub AreCases : List Token → List CaseItem → Type 0
AreCases ts xs = Behind (behind_key (codes "case") ts) (λ rest. Each IsCaseItem (pieces sep.Comma rest) xs)

-- whether Preserve is written, and the arrays
abbrev pub AreArrays : List Token → Bool × List ReDimItem → Type 0
AreArrays ts x = Behind (behind_key (codes "redim") ts) (λ rest. (x.0 ≡ is_found (behind_key (codes "preserve") rest)) × Each IsReDimItem (pieces sep.Comma (past_word (codes "preserve") rest)) x.1)

abbrev pub IsLimitFrom : List Token → Exp → Option Exp → Type 0
IsLimitFrom ts limit None = IsExpression ts limit
IsLimitFrom ts limit (Some step) = (before : List Token) × (after : List Token) × IsJoined (codes "step") ts before after × IsExpression before limit × IsExpression after step

-- the limit of a For, and its step
abbrev pub IsLimit : List Token → Exp × Option Exp → Type 0
IsLimit ts x = IsLimitFrom ts x.0 x.1

abbrev pub limit_depth : Exp × Option Exp → ℕ
limit_depth x = max (depth_of x.0) (option_depth x.1)

-- a start, To and a limit
abbrev pub IsRange : List Token → Exp × (Exp × Option Exp) → Type 0
IsRange ts x = (before : List Token) × (after : List Token) × IsJoined (codes "to") ts before after × IsExpression before x.0 × IsLimit after x.1

abbrev pub range_depth : Exp × (Exp × Option Exp) → ℕ
range_depth x = max (depth_of x.0) (limit_depth x.1)

-- a counter and a range
abbrev pub Counting : Type 0
Counting = Exp × (Exp × (Exp × Option Exp))

abbrev pub IsCounting : List Token → Counting → Type 0
IsCounting ts x = Behind (behind_key (codes "for") ts) (λ rest. Behind (parted sep.Equal rest) (λ p. IsTarget p.0 x.0 × IsRange p.1 x.1))

abbrev pub counting_form : Counting → Form
counting_form x = tree.for_head x.0 x.1.0 x.1.1.0 x.1.1.1

abbrev pub counting_depth : Counting → ℕ
counting_depth x = max (depth_of x.0) (range_depth x.1)

-- a name and what it goes over
abbrev pub IsForEach : List Token → (List ℕ × Suffix) × Exp → Type 0
IsForEach ts x = Behind (each_parts ts) (λ p. (p.0 ≡ x.0) × IsExpression p.1 x.1)

-- the items of a Debug.Print
abbrev pub AreItems : List Token → List Exp → Type 0
AreItems [] xs = xs ≡ []
AreItems (t ∷ ts) xs = Each IsExpression (pieces sep.Semicolon (t ∷ ts)) xs

-- these items, and whether a semicolon ends them
abbrev pub AreFew : List Token → Bool → List Exp × Bool → Type 0
AreFew ts ended x = AreItems ts x.0 × (x.1 ≡ ended)

-- items, and whether a semicolon ends them
abbrev pub IsPrinted : Option (List Token) → List Token → List Exp × Bool → Type 0
IsPrinted (Some front) ts x = AreFew front true x
IsPrinted None ts x = AreFew ts false x

abbrev pub IsPrinting : List Token → List Exp × Bool → Type 0
IsPrinting ts x = Behind (behind_debug (codes "print") ts) (λ rest. (has_column false rest ≡ false) × IsPrinted (before_semicolon rest) rest x)

-- a Debug.Print has no more items than an expression may be deep
abbrev pub printing_depth : List Exp × Bool → ℕ
printing_depth x = max (deepest depth_of x.0) (length x.0)

abbrev pub AreArguments : List Token → List Argument → Type 0
AreArguments [] xs = xs ≡ []
AreArguments (t ∷ ts) xs = Each IsArgument (pieces sep.Comma (t ∷ ts)) xs

-- the arguments of Mid before `=`
abbrev pub IsReplacement : List Token → List Argument → Type 0
IsReplacement ts xs = Behind (parted sep.Equal ts) (λ p. Behind (mid_list p.0) (λ inside. AreArguments inside xs))

-- GoTo or GoSub stands behind an expression, which the first tokens are
abbrev pub IsJumpAt : List Token → List Token → Type 0
IsJumpAt ts before = (after : List Token) × (IsJoined (codes "goto") ts before after ⊎ IsJoined (codes "gosub") ts before after)

abbrev pub NoJump : List Token → Type 0
NoJump ts = (before : List Token) → IsJumpAt ts before → ⊥

abbrev pub IsJumpFront : List Token → Exp → Type 0
IsJumpFront ts e = (before : List Token) × IsJumpAt ts before × IsExpression before e

-- On, an expression before GoTo or GoSub, and any tokens behind it
abbrev pub IsComputed : List Token → Exp → Type 0
IsComputed ts e = Behind (behind_key (codes "on") ts) (λ rest. IsJumpFront rest e)

-- a callee and arguments; the callee is the longest front without an argument list at its end
abbrev pub IsInvocation : List Token → Exp × List Argument → Type 0
IsInvocation ts x = (len : ℕ) × IsCalleeLength ts len × IsCallee (take len ts) x.0 × AreArguments (drop len ts) x.1

abbrev pub invocation_depth : Exp × List Argument → ℕ
invocation_depth x = max (depth_of x.0) (deepest argument_depth x.1)

-- the shortest front of the tokens that ends in a member that draws, behind a full stop
pub record IsDrawn (ts : List Token) (len : ℕ) : Type 0 where
  pub within : len ≤ length ts
  pub drawn : ends_drawn (take len ts) ≡ true
  pub shortest : (m : ℕ) → m ≤ length ts → ends_drawn (take m ts) ≡ true → len ≤ m

abbrev pub NotDrawn : List Token → Type 0
NotDrawn ts = (m : ℕ) → m ≤ length ts → ends_drawn (take m ts) ≡ true → ⊥

-- whether the tokens are a callee
abbrev pub FrontIs : List Token → Bool → Type 0
FrontIs ts true = (e : Exp) × IsCallee ts e
FrontIs ts false = (e : Exp) → IsCallee ts e → ⊥

abbrev pub IsDrawing : List Token → Exp → Type 0
IsDrawing ts e = (len : ℕ) × IsDrawn ts len × IsCallee (take len ts) e

-- Forms, and how deep their deepest expression is.

-- a form that is made of a part
abbrev pub Made : {X : Type 0} → (X → Type 0) → (X → Form) → (X → ℕ) → Form → ℕ → Type 0
Made Is form depth f n = (x : _) × Is x × (f ≡ form x) × (n ≡ depth x)

-- a form without expressions
abbrev pub Found : Option Form → Form → ℕ → Type 0
Found found f n = (found ≡ Some f) × (n ≡ 0)

-- a line that is kept as its tokens where a test holds
abbrev pub Kept : Bool → List Token → Form → ℕ → Type 0
Kept test ts f n = (test ≡ true) × (f ≡ tree.opaque ts) × (n ≡ 0)

-- what may be meant by a line
pub data FormKind : Type 0 where
  print_items : FormKind
  print_kept : FormKind
  replacement : FormKind
  assignment : FormKind
  setting : FormKind
  calling : FormKind
  block_if : FormKind
  else_if : FormKind
  words_alone : FormKind
  select_head : FormKind
  case_items : FormKind
  counting : FormKind
  for_each_item : FormKind
  next_end : FormKind
  do_while_head : FormKind
  do_until_head : FormKind
  loop_while_end : FormKind
  loop_until_end : FormKind
  while_line : FormKind
  with_line : FormKind
  jump : FormKind
  error_jump : FormKind
  resumption : FormKind
  redimming : FormKind
  erasing : FormKind
  kept_words : FormKind
  computed_jump : FormKind
  invocation : FormKind
  drawing : FormKind

abbrev pub Fits : FormKind → List Token → Form → ℕ → Type 0
-- `Debug.Print` and items separated by `;`, perhaps ended by one, without the words Tab and Spc
Fits print_items ts f n = Made (IsPrinting ts) (λ x. tree.debug_print x.0 x.1) printing_depth f n
-- any other line that begins with `Debug.Print`
Fits print_kept ts f n = Kept (is_found (behind_debug (codes "print") ts)) ts f n
-- `Mid` or `Mid$` with an argument list and `=`
Fits replacement ts f n = Made (IsReplacement ts) (λ x. tree.opaque ts) (deepest argument_depth) f n
-- `[Let] l = e`
Fits assignment ts f n = Made (AreSides (past_word (codes "let") ts)) (λ x. tree.assign x.0 x.1) pair_depth f n
-- `Set l = e`
Fits setting ts f n = Made (IsSetting ts) (λ x. tree.set x.0 x.1) pair_depth f n
-- `Call l`
Fits calling ts f n = Made (IsCalling ts) tree.call depth_of f n
-- `If e Then`
Fits block_if ts f n = Made (IsEnclosed (codes "if") ts) tree.if_head depth_of f n
-- `ElseIf e Then`
Fits else_if ts f n = Made (IsEnclosed (codes "elseif") ts) tree.else_if depth_of f n
-- Else, End If, Case Else, End Select, Do, Loop, Wend, End With, On Error Resume Next, Resume, Resume Next, and Exit
Fits words_alone ts f n = Found (words_form ts) f n
-- `Select Case e`
Fits select_head ts f n = Made (IsHeadedTwice (codes "select") (codes "case") ts) tree.select depth_of f n
-- `Case` and items
Fits case_items ts f n = Made (AreCases ts) tree.case_line (deepest case_depth) f n
-- `For l = e To e [Step e]`
Fits counting ts f n = Made (IsCounting ts) counting_form counting_depth f n
-- `For Each n In e`
Fits for_each_item ts f n = Made (IsForEach ts) (λ x. tree.for_each x.0.0 x.0.1 x.1) (λ x. depth_of x.1) f n
-- `Next`, with one name or without
Fits next_end ts f n = Found (next_form ts) f n
-- `Do While e`
Fits do_while_head ts f n = Made (IsHeadedTwice (codes "do") (codes "while") ts) tree.do_while depth_of f n
-- `Do Until e`
Fits do_until_head ts f n = Made (IsHeadedTwice (codes "do") (codes "until") ts) tree.do_until depth_of f n
-- `Loop While e`
Fits loop_while_end ts f n = Made (IsHeadedTwice (codes "loop") (codes "while") ts) tree.loop_while depth_of f n
-- `Loop Until e`
Fits loop_until_end ts f n = Made (IsHeadedTwice (codes "loop") (codes "until") ts) tree.loop_until depth_of f n
-- `While e`
Fits while_line ts f n = Made (IsHeaded (codes "while") ts) tree.while_head depth_of f n
-- `With e`
Fits with_line ts f n = Made (IsHeaded (codes "with") ts) tree.with_head depth_of f n
-- `GoTo` and a label
Fits jump ts f n = Found (jump_form ts) f n
-- `On Error GoTo` and a label, or 0
Fits error_jump ts f n = Found (error_form ts) f n
-- `Resume` and a label, or 0
Fits resumption ts f n = Found (resume_form ts) f n
-- `ReDim [Preserve]` and arrays
Fits redimming ts f n = Made (AreArrays ts) (λ x. tree.redim x.0 x.1) (λ x. deepest redim_depth x.1) f n
-- `Erase` and an array
Fits erasing ts f n = Made (IsErasing ts) tree.erase depth_of f n
-- a line that is kept for its first word, and `Debug.Assert`
Fits kept_words ts f n = Kept (keeps ts) ts f n
-- `On e GoTo` or `GoSub`
Fits computed_jump ts f n = Made (IsComputed ts) (λ x. tree.opaque ts) depth_of f n
-- a callee and arguments
Fits invocation ts f n = Made (IsInvocation ts) (λ x. tree.invoke x.0 (args_from x.1)) invocation_depth f n
-- a line that begins with a target that ends in `.Circle`, `.Line`, `.Print`, `.PSet` or `.Scale`
Fits drawing ts f n = Made (IsDrawing ts) (λ x. tree.opaque ts) (λ x. 0) f n

-- the first kind of a list that fits
abbrev pub FirstIn : List FormKind → List Token → Form → ℕ → Type 0
FirstIn [] ts f n = ⊥
FirstIn (k ∷ ks) ts f n = Fits k ts f n ⊎ (((g : Form) (m : ℕ) → Fits k ts g m → ⊥) × FirstIn ks ts f n)

-- The order in which forms are meant, in five groups.
abbrev pub first_kinds : List FormKind
first_kinds = print_items ∷ print_kept ∷ replacement ∷ assignment ∷ setting ∷ calling ∷ []

abbrev pub branch_kinds : List FormKind
branch_kinds = block_if ∷ else_if ∷ words_alone ∷ select_head ∷ case_items ∷ []

abbrev pub loop_kinds : List FormKind
loop_kinds = counting ∷ for_each_item ∷ next_end ∷ do_while_head ∷ do_until_head ∷ loop_while_end ∷ loop_until_end ∷ while_line ∷ with_line ∷ []

abbrev pub jump_kinds : List FormKind
jump_kinds = jump ∷ error_jump ∷ resumption ∷ redimming ∷ erasing ∷ []

abbrev pub last_kinds : List FormKind
last_kinds = kept_words ∷ computed_jump ∷ invocation ∷ drawing ∷ []

abbrev pub order : List FormKind
order = first_kinds ++ branch_kinds ++ loop_kinds ++ jump_kinds ++ last_kinds

-- The tokens mean the form, whose deepest expression is so deep.
abbrev pub IsMeant : List Token → Form → ℕ → Type 0
IsMeant ts f n = FirstIn order ts f n
