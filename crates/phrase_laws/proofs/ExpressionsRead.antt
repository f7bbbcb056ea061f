-- Expressions are read back: each form, given that its parts are.
use Rattle.std.proofs.Common.{◌≡◌, ℕ, zero, suc, ◌+◌, ◌-◌, ◌≤◌, negsuc, Bool, true, false, ◌==◌, List, [], ◌∷◌, ◌++◌, replicate, codes, refl, sym, ap, ◌∙◌, arith, append_assoc, zero-add, Option, Some, length, length-append}
use Rattle.std.specs.Fmt.{digits}
use Rattle.std.proofs.lemmas.Bool.{not-true}
use Rattle.net_tree.specs.declared.expression.CastWord.{CastWord}
use Rattle.net_tree.specs.declared.expression.CastWord.TheVariants as word
use Rattle.net_tree.specs.declared.expression.NetBin.{NetBin}
use Rattle.net_tree.specs.declared.expression.NetBin.TheVariants as op
use Rattle.net_tree.specs.declared.expression.NetUn.{NetUn}
use Rattle.net_tree.specs.declared.expression.NetUn.TheVariants as un
use Rattle.net_tree.specs.Types as ty
use Rattle.net_tree.specs.Types.{TypeName}
use Rattle.net_tree.specs.Tree.{Exp, Exps, Literal, binary, boolean, call_of, cast, ctype, decimal, dot, integer, lit, long, me, new_array, new_object, next_exp, no_exps, nothing, paren, path, short, str, type_of, unary, with_dot}
use Rattle.net_tree.specs.Spelling.{is_identifier, is_path, name_text, separated}
use Rattle.net_tree.specs.Literals.{is_writable_literal, literal_text}
use Rattle.net_tree.specs.Expressions.{arguments_text, cast_text, exp_text, exp_texts, is_no_bound, is_path_exp, is_writable_type, operator_text, rank_text, type_text, unary_text}
use Rattle.net_exprs.specs.declared.starts.Front.{Front}
use Rattle.net_exprs.specs.declared.starts.Front.TheVariants as opens
use Rattle.net_exprs.specs.declared.starts.Keyword.TheVariants as key
use Rattle.net_exprs.specs.Readers.{after, behind, past}
use Rattle.net_exprs.specs.Ends.{ends_expression, ends_name, ends_path}
use Rattle.net_exprs.specs.Names.{name_at}
use Rattle.net_exprs.specs.Types.{base_at, type_at}
use Rattle.net_exprs.specs.Expressions.{Group, Stage, bounded, closed, closed_type, type_closed, exp_nested, front_of, group_at, group_by, head_at, items, items_behind, items_from, keyword_of, leaf, opened, operand_behind, operator_at, parenthesized, rank, ranked, start_of, suffix_by, suffix_of, suffixes, value_of, whole, with_group, with_ranks, word_front}
use Rattle.net_exprs.specs.Fitting.{fits_literal}
use Rattle.net_tree.specs.Depth.{depth_exp, depth_exps, depth_type}
use Rattle.net_tree.proofs.TypeDepths.{element_can}
use Rattle.net_exprs.proofs.Words.{are_identifiers, name_reads, never}
use Rattle.phrase_laws.proofs.LiteralsRead.{ends_literal}
use Rattle.phrase_laws.proofs.TypesRead.{base_is_none, base_is_writable, base_of, base_reads, ends_ranks, is_array, rank_inside, ranks_last, ranks_text, type_parts, type_reads}
use Rattle.phrase_laws.proofs.Heads.{follows, follows_end, follows_member, literal_ends, literal_head, name_ends, path_ends, path_head, suffix_ends, word_head}
use Rattle.phrase_laws.proofs.Lengths.{count_exps, count_within, is_nested, spent, spent_within}

-- ---- stages

abbrev pub group_of : Exps → Group
group_of no_exps = rank 1
group_of (next_exp e es) = items (next_exp e es)

-- what is read so far where an expression has been read
abbrev pub stage_of : Exp → Stage
stage_of (lit l) = whole (lit l)
stage_of nothing = whole nothing
stage_of me = whole me
stage_of (path names) = whole (path names)
stage_of (with_dot name) = whole (with_dot name)
stage_of (dot e name) = whole (dot e name)
stage_of (call_of e args) = with_group (stage_of e) (group_of args)
stage_of (cast w e) = whole (cast w e)
stage_of (ctype e t) = whole (ctype e t)
stage_of (unary o e) = whole (unary o e)
stage_of (binary o a b) = whole (binary o a b)
stage_of (paren e) = whole (paren e)
stage_of (new_object t args) = with_group (ranked t []) (group_of args)
stage_of (new_array t bounds) = whole (new_array t bounds)
stage_of (type_of e t) = whole (type_of e t)

-- whether more than New and a type are read
abbrev is_begun : Stage → Bool
is_begun (whole e) = true
is_begun (ranked t []) = false
is_begun (ranked t (r ∷ ranks)) = true
is_begun (bounded t ranks bounds) = true

group_value : (stage : Stage) (args : Exps) → is_begun stage ≡ true → value_of (with_group stage (group_of args)) ≡ call_of (value_of stage) args
group_value (whole e) no_exps h = refl
group_value (whole e) (next_exp a es) h = refl
group_value (ranked t []) args h = never h
group_value (ranked t (r ∷ ranks)) no_exps h = refl
group_value (ranked t (r ∷ ranks)) (next_exp a es) h = refl
group_value (bounded t ranks bounds) no_exps h = refl
group_value (bounded t ranks bounds) (next_exp a es) h = refl

group_begun : (stage : Stage) (args : Exps) → is_begun (with_group stage (group_of args)) ≡ true
group_begun (whole e) no_exps = refl
group_begun (whole e) (next_exp a es) = refl
group_begun (ranked t ranks) no_exps = refl
group_begun (ranked t ranks) (next_exp a es) = refl
group_begun (bounded t ranks bounds) no_exps = refl
group_begun (bounded t ranks bounds) (next_exp a es) = refl

stage_begun : (e : Exp) → is_begun (stage_of e) ≡ true
stage_begun (call_of e args) = group_begun (stage_of e) args
stage_begun (new_object t args) = group_begun (ranked t []) args
stage_begun _ = refl

pub stage_value : (e : Exp) → value_of (stage_of e) ≡ e
stage_value (call_of e args) = group_value (stage_of e) args (stage_begun e) ∙ ap (λ x. call_of x args) (stage_value e)
stage_value (new_object t no_exps) = refl
stage_value (new_object t (next_exp a es)) = refl
stage_value _ = refl

-- ---- what is to be shown

-- an expression is read up to what may follow it
abbrev pub Reads : Exp → Type 0
Reads e =
    (k n : ℕ) (rest : List ℕ) → depth_exp e ≤ suc k → n + spent e ≡ length (exp_text e ++ rest) → follows e rest ≡ true
    → exp_nested (suc k) (exp_text e ++ rest) ≡ suffixes (group_at (exp_nested k)) n (stage_of e) rest

-- an expression is read where it ends
abbrev pub ReadsWhole : Exp → Type 0
ReadsWhole e = (k : ℕ) (rest : List ℕ) → depth_exp e ≤ k → ends_expression rest ≡ true → exp_nested k (exp_text e ++ rest) ≡ Some (e, rest)

pub suffixes_end : (g : List ℕ → Option (Group × List ℕ)) (n : ℕ) (stage : Stage) (rest : List ℕ) → ends_expression rest ≡ true → suffixes g n stage rest ≡ Some (value_of stage, rest)
suffixes_end g zero stage rest e = refl
suffixes_end g (suc n) stage rest e = ap (suffix_by (suffixes g n) g stage rest) (suffix_ends rest e)

pub reads_whole : (e : Exp) → Reads e → ReadsWhole e
reads_whole e reads zero rest h ends = absurd (omega (arith, is_nested e))
reads_whole e reads (suc k) rest h ends =
    let n = length (exp_text e ++ rest) - spent e in
    let fuel : n + spent e ≡ length (exp_text e ++ rest) = omega (arith, spent_within e, length-append (exp_text e) rest) in
    reads k n rest h fuel (follows_end e rest ends) ∙ suffixes_end (group_at (exp_nested k)) n (stage_of e) rest ends ∙ ap (λ x. Some (x, rest)) (stage_value e)

-- a head that is read without suffixes
abbrev HeadReads : Exp → Type 0
HeadReads e = (k : ℕ) (rest : List ℕ) → depth_exp e ≤ suc k → follows e rest ≡ true → head_at (exp_nested k) (exp_text e ++ rest) ≡ Some (whole e, rest)

reads_head : (e : Exp) → spent e ≡ 0 → stage_of e ≡ whole e → HeadReads e → Reads e
reads_head e none alone head k n rest h fuel f =
    let same : n ≡ length (exp_text e ++ rest) = omega (arith, none, fuel) in
    ap (λ o. behind o (suffixes (group_at (exp_nested k)) (length (exp_text e ++ rest)))) (head k rest h f)
    ∙ ap (λ m. suffixes (group_at (exp_nested k)) m (whole e) rest) (sym same)
    ∙ ap (λ stage. suffixes (group_at (exp_nested k)) n stage rest) (sym alone)

-- ---- words, literals and names

boolean_head : (b : Bool) (read : List ℕ → Option (Exp × List ℕ)) (rest : List ℕ) → ends_name rest ≡ true → head_at read (literal_text (boolean b) ++ rest) ≡ Some (whole (lit (boolean b)), rest)
unfolding keyword_of
boolean_head true read rest e = word_head read 84 (codes "rue") rest (Some key.True) refl refl e refl
boolean_head false read rest e = word_head read 70 (codes "alse") rest (Some key.False) refl refl e refl

nothing_head : HeadReads nothing
unfolding keyword_of
nothing_head k rest h e = word_head (exp_nested k) 78 (codes "othing") rest (Some key.Nothing) refl refl (name_ends nothing rest e) refl

me_head : HeadReads me
unfolding keyword_of
me_head k rest h e = word_head (exp_nested k) 77 (codes "e") rest (Some key.Me) refl refl (name_ends me rest e) refl

pub nothing_reads : Reads nothing
nothing_reads = reads_head nothing refl refl nothing_head

pub me_reads : Reads me
me_reads = reads_head me refl refl me_head

pub literal_reads : (l : Literal) → is_writable_literal l ≡ true → fits_literal l ≡ true → Reads (lit l)
literal_reads l h f = reads_head (lit l) refl refl (λ k rest n e. by l h f (exp_nested k) rest (literal_ends (lit l) rest e) (name_ends (lit l) rest e))
  where
    by : (l : Literal) → is_writable_literal l ≡ true → fits_literal l ≡ true → (read : List ℕ → Option (Exp × List ℕ)) (rest : List ℕ) → ends_literal rest ≡ true → ends_name rest ≡ true
        → head_at read (literal_text l ++ rest) ≡ Some (whole (lit l), rest)
    by (boolean b) h f read rest e w = boolean_head b read rest w
    by (short z x) h f read rest e w = literal_head read (short z x) rest refl h f e
    by (integer z x) h f read rest e w = literal_head read (integer z x) rest refl h f e
    by (long z) h f read rest e w = literal_head read (long z) rest refl h f e
    by (decimal z) h f read rest e w = literal_head read (decimal z) rest refl h f e
    by (str units) h f read rest e w = literal_head read (str units) rest refl h f e

pub path_reads : (names : List (List ℕ)) → is_path names ≡ true → Reads (path names)
path_reads [] h = never h
path_reads (n ∷ names) h = reads_head (path (n ∷ names)) refl refl (λ k rest m e. path_head (exp_nested k) n names rest (are_identifiers n names h) (path_ends (n ∷ names) rest e))

point_head : (read : List ℕ → Option (Exp × List ℕ)) (s : List ℕ) → head_at read (46 ∷ s) ≡ behind (behind (name_at s) (λ name rest. Some (leaf (whole (with_dot name)), rest))) (opened read)
unfolding start_of
point_head read s = refl

pub with_dot_reads : (name : List ℕ) → is_identifier name ≡ true → Reads (with_dot name)
with_dot_reads name h =
    reads_head (with_dot name) refl refl (λ k rest m e.
    point_head (exp_nested k) (name_text name ++ rest) ∙ ap (λ o. behind (behind o (λ name rest. Some (leaf (whole (with_dot name)), rest))) (opened (exp_nested k))) (name_reads name rest h (name_ends (with_dot name) rest e)))

-- ---- forms in parentheses

cast_head : (w : CastWord) (read : List ℕ → Option (Exp × List ℕ)) (s : List ℕ) → head_at read (cast_text w ++ (40 ∷ s)) ≡ behind (read s) (closed (cast w))
unfolding start_of keyword_of
cast_head word.CBool read s = refl
cast_head word.CByte read s = refl
cast_head word.CShort read s = refl
cast_head word.CInt read s = refl
cast_head word.CLng read s = refl
cast_head word.CDec read s = refl
cast_head word.CStr read s = refl
cast_head word.CObj read s = refl

pub cast_reads : (w : CastWord) (a : Exp) → ReadsWhole a → Reads (cast w a)
cast_reads w a inner =
    reads_head (cast w a) refl refl (λ k rest h e.
    let again : exp_text (cast w a) ++ rest ≡ cast_text w ++ (40 ∷ (exp_text a ++ (41 ∷ rest))) = simp append_assoc in
    ap (head_at (exp_nested k)) again ∙ cast_head w (exp_nested k) (exp_text a ++ (41 ∷ rest)) ∙ ap (λ o. behind o (closed (cast w))) (inner k (41 ∷ rest) (omega arith) refl))

-- an expression, a text and a type, up to the closing parenthesis
typed_inside : (make : Exp → TypeName → Exp) (text : List ℕ) (a : Exp) (t : TypeName) (k : ℕ) (rest : List ℕ) → ReadsWhole a → depth_exp a ≤ k → is_writable_type t ≡ true
    → ((s : List ℕ) → ends_expression (text ++ s) ≡ true) → ((s : List ℕ) → after text (text ++ s) ≡ Some s)
    → behind (exp_nested k (exp_text a ++ (text ++ (type_text t ++ (41 ∷ rest))))) (closed_type text make) ≡ Some (whole (make a t), rest)
typed_inside make text a t k rest inner h w ends stands =
    let tail = type_text t ++ (41 ∷ rest) in
    let typed : Option (TypeName × List ℕ) → Option (Stage × List ℕ) = λ o. behind o (λ t rest. Some (whole (make a t), rest)) in
    ap (λ o. behind o (closed_type text make)) (inner k (text ++ tail) h (ends tail))
    ∙ ap (λ o. typed (past o (λ s. behind (type_at s) type_closed))) (stands tail)
    ∙ ap (λ o. typed (behind o type_closed)) (type_reads t (41 ∷ rest) w refl)

ctype_head : (read : List ℕ → Option (Exp × List ℕ)) (s : List ℕ) → head_at read (codes "CType(" ++ s) ≡ behind (read s) (closed_type (codes ", ") ctype)
unfolding start_of keyword_of
ctype_head read s = refl

pub ctype_reads : (a : Exp) (t : TypeName) → ReadsWhole a → is_writable_type t ≡ true → Reads (ctype a t)
ctype_reads a t inner w =
    reads_head (ctype a t) refl refl (λ k rest h e.
    let again : exp_text (ctype a t) ++ rest ≡ codes "CType(" ++ (exp_text a ++ (codes ", " ++ (type_text t ++ (41 ∷ rest)))) = simp append_assoc in
    ap (head_at (exp_nested k)) again ∙ ctype_head (exp_nested k) _ ∙ typed_inside ctype (codes ", ") a t k rest inner (omega arith) w (λ s. refl) (λ s. refl))

type_of_head : (read : List ℕ → Option (Exp × List ℕ)) (s : List ℕ) → head_at read (codes "(TypeOf " ++ s) ≡ behind (read s) (closed_type (codes " Is ") type_of)
unfolding start_of front_of word_front
type_of_head read s = refl

pub type_of_reads : (a : Exp) (t : TypeName) → ReadsWhole a → is_writable_type t ≡ true → Reads (type_of a t)
type_of_reads a t inner w =
    reads_head (type_of a t) refl refl (λ k rest h e.
    let again : exp_text (type_of a t) ++ rest ≡ codes "(TypeOf " ++ (exp_text a ++ (codes " Is " ++ (type_text t ++ (41 ∷ rest)))) = simp append_assoc in
    ap (head_at (exp_nested k)) again ∙ type_of_head (exp_nested k) _ ∙ typed_inside type_of (codes " Is ") a t k rest inner (omega arith) w (λ s. refl) (λ s. refl))

unary_head : (o : NetUn) (read : List ℕ → Option (Exp × List ℕ)) (s : List ℕ) → head_at read (40 ∷ (unary_text o ++ s)) ≡ behind (read s) (closed (unary o))
unfolding start_of front_of word_front
unary_head un.Neg read s = refl
unary_head un.Not read s = refl

pub unary_reads : (o : NetUn) (a : Exp) → ReadsWhole a → Reads (unary o a)
unary_reads o a inner =
    reads_head (unary o a) refl refl (λ k rest h e.
    let again : exp_text (unary o a) ++ rest ≡ 40 ∷ (unary_text o ++ (exp_text a ++ (41 ∷ rest))) = simp append_assoc in
    ap (head_at (exp_nested k)) again ∙ unary_head o (exp_nested k) (exp_text a ++ (41 ∷ rest)) ∙ ap (λ x. behind x (closed (unary o))) (inner k (41 ∷ rest) (omega arith) refl))

-- an expression begins as an operand in parentheses
abbrev pub IsOperand : Exp → Type 0
IsOperand e = (rest : List ℕ) → follows e rest ≡ true → front_of (exp_text e ++ rest) ≡ opens.Operand

opening_head : (read : List ℕ → Option (Exp × List ℕ)) (s : List ℕ) → head_at read (40 ∷ s) ≡ behind (parenthesized s (front_of s)) (opened read)
unfolding start_of
opening_head read s = refl

pub paren_reads : (a : Exp) → IsOperand a → ReadsWhole a → Reads (paren a)
paren_reads a front inner =
    reads_head (paren a) refl refl (λ k rest h e.
    let s = exp_text a ++ (41 ∷ rest) in
    let again : exp_text (paren a) ++ rest ≡ 40 ∷ s = simp append_assoc in
    ap (head_at (exp_nested k)) again ∙ opening_head (exp_nested k) s ∙ ap (λ f. behind (parenthesized s f) (opened (exp_nested k))) (front (41 ∷ rest) (follows_end a (41 ∷ rest) refl))
    ∙ ap (λ x. behind x (operand_behind (exp_nested k))) (inner k (41 ∷ rest) (omega arith) refl))

operator_ends : (o : NetBin) (s : List ℕ) → ends_expression (operator_text o ++ s) ≡ true
operator_ends op.Add s = refl
operator_ends op.Sub s = refl
operator_ends op.Mul s = refl
operator_ends op.IntDiv s = refl
operator_ends op.Mod s = refl
operator_ends op.Concat s = refl
operator_ends op.Equal s = refl
operator_ends op.NotEqual s = refl
operator_ends op.Less s = refl
operator_ends op.Greater s = refl
operator_ends op.LessEqual s = refl
operator_ends op.GreaterEqual s = refl
operator_ends op.And s = refl
operator_ends op.Or s = refl
operator_ends op.Xor s = refl
operator_ends op.Is s = refl

operator_behind : (o : NetBin) (read : List ℕ → Option (Exp × List ℕ)) (a : Exp) (s : List ℕ) → operand_behind read a (operator_text o ++ s) ≡ behind (read s) (closed (binary o a))
unfolding operator_at
operator_behind op.Add read a s = refl
operator_behind op.Sub read a s = refl
operator_behind op.Mul read a s = refl
operator_behind op.IntDiv read a s = refl
operator_behind op.Mod read a s = refl
operator_behind op.Concat read a s = refl
operator_behind op.Equal read a s = refl
operator_behind op.NotEqual read a s = refl
operator_behind op.Less read a s = refl
operator_behind op.Greater read a s = refl
operator_behind op.LessEqual read a s = refl
operator_behind op.GreaterEqual read a s = refl
operator_behind op.And read a s = refl
operator_behind op.Or read a s = refl
operator_behind op.Xor read a s = refl
operator_behind op.Is read a s = refl

binary_text : (x o y rest : List ℕ) → (codes "(" ++ x ++ o ++ y ++ codes ")") ++ rest ≡ 40 ∷ (x ++ (o ++ (y ++ (41 ∷ rest))))
binary_text x o y rest = simp append_assoc

pub binary_reads : (o : NetBin) (a b : Exp) → IsOperand a → ReadsWhole a → ReadsWhole b → Reads (binary o a b)
binary_reads o a b front left right =
    reads_head (binary o a b) refl refl (λ k rest h e.
    let tail = exp_text b ++ (41 ∷ rest) in
    let s = exp_text a ++ (operator_text o ++ tail) in
    let again : exp_text (binary o a b) ++ rest ≡ 40 ∷ s = binary_text (exp_text a) (operator_text o) (exp_text b) rest in
    ap (head_at (exp_nested k)) again ∙ opening_head (exp_nested k) s ∙ ap (λ f. behind (parenthesized s f) (opened (exp_nested k))) (front (operator_text o ++ tail) (follows_end a (operator_text o ++ tail) (operator_ends o tail)))
    ∙ ap (λ x. behind x (operand_behind (exp_nested k))) (left k (operator_text o ++ tail) (omega arith) (operator_ends o tail))
    ∙ operator_behind o (exp_nested k) a tail
    ∙ ap (λ x. behind x (closed (binary o a))) (right k (41 ∷ rest) (omega arith) refl))

-- ---- suffixes

-- what is read behind an expression, one suffix more
abbrev Behind : ℕ → ℕ → Stage → List ℕ → Option (Exp × List ℕ)
Behind k n stage s = suffixes (group_at (exp_nested k)) n stage s

member_step : (k n : ℕ) (stage : Stage) (name rest : List ℕ) → is_identifier name ≡ true → ends_name rest ≡ true
    → Behind k (suc n) stage (46 ∷ (name_text name ++ rest)) ≡ Behind k n (whole (dot (value_of stage) name)) rest
unfolding suffix_of
member_step k n stage name rest h e = ap (λ o. behind o (λ name. Behind k n (whole (dot (value_of stage) name)))) (name_reads name rest h e)

pub dot_reads : (a : Exp) (name : List ℕ) → is_path_exp a ≡ false → is_identifier name ≡ true → Reads a → Reads (dot a name)
dot_reads a name p h reads k n rest enough fuel f =
    let again : exp_text (dot a name) ++ rest ≡ exp_text a ++ (46 ∷ (name_text name ++ rest)) = simp append_assoc in
    ap (exp_nested (suc k)) again
    ∙ reads k (suc n) (46 ∷ (name_text name ++ rest)) (omega arith) (omega (arith, fuel, ap length again)) (follows_member a name rest p h)
    ∙ member_step k n (stage_of a) name rest h (name_ends (dot a name) rest f)
    ∙ ap (λ x. Behind k n (whole (dot x name)) rest) (stage_value a)

-- an item of a list: it is read where it ends, and begins neither with a comma nor with a closing parenthesis
abbrev is_item : Front → Bool
is_item opens.Closing = false
is_item opens.Comma = false
is_item opens.Minus = true
is_item opens.Negation = true
is_item opens.TypeTest = true
is_item opens.Operand = true

pub record IsItem (e : Exp) : Type 0 where
  pub read : ReadsWhole e
  pub begins : (rest : List ℕ) → ends_expression rest ≡ true → is_item (front_of (exp_text e ++ rest)) ≡ true

abbrev pub AreItems : Exps → Type 0
AreItems no_exps = Unit {0}
AreItems (next_exp e more) = IsItem e × AreItems more

-- what stands between the parentheses, and the closing one
abbrev inside : Exps → List ℕ → List ℕ
inside es rest = (separated (codes ", ") (exp_texts es) ++ codes ")") ++ rest

last_inside : (e : Exp) (rest : List ℕ) → inside (next_exp e no_exps) rest ≡ exp_text e ++ (41 ∷ rest)
last_inside e rest = append_assoc (exp_text e) (codes ")") rest

more_texts : (x y rest : List ℕ) → ((x ++ codes ", " ++ y) ++ codes ")") ++ rest ≡ x ++ (44 ∷ 32 ∷ ((y ++ codes ")") ++ rest))
more_texts x y rest = simp append_assoc

more_inside : (e f : Exp) (es : Exps) (rest : List ℕ) → inside (next_exp e (next_exp f es)) rest ≡ exp_text e ++ (44 ∷ 32 ∷ inside (next_exp f es) rest)
more_inside e f es rest = more_texts (exp_text e) (separated (codes ", ") (exp_texts (next_exp f es))) rest

items_read : (k n : ℕ) (e : Exp) (es : Exps) (rest : List ℕ) → AreItems (next_exp e es) → depth_exps (next_exp e es) ≤ k → count_exps (next_exp e es) ≤ n
    → items_from (exp_nested k) n (inside (next_exp e es) rest) ≡ Some (next_exp e es, rest)
items_read k zero e es rest are h i = absurd (omega arith)
items_read k (suc n) e no_exps rest are h i =
    ap (items_from (exp_nested k) (suc n)) (last_inside e rest)
    ∙ ap (λ o. behind o (items_behind (items_from (exp_nested k) n))) (are.0.read k (41 ∷ rest) (omega arith) refl)
items_read k (suc n) e (next_exp f es) rest are h i =
    ap (items_from (exp_nested k) (suc n)) (more_inside e f es rest)
    ∙ ap (λ o. behind o (items_behind (items_from (exp_nested k) n))) (are.0.read k (44 ∷ 32 ∷ inside (next_exp f es) rest) (omega arith) refl)
    ∙ ap (λ o. behind o (λ es rest. Some (next_exp e es, rest))) (items_read k n f es rest are.1 (omega arith) (omega arith))

group_items : (read : List ℕ → Option (Exp × List ℕ)) (n : ℕ) (s : List ℕ) (front : Front) → is_item front ≡ true
    → group_by read n s front ≡ behind (items_from read n s) (λ es rest. Some (items es, rest))
group_items read n s opens.Closing h = never h
group_items read n s opens.Comma h = never h
group_items read n s opens.Minus h = refl
group_items read n s opens.Negation h = refl
group_items read n s opens.TypeTest h = refl
group_items read n s opens.Operand h = refl

inside_begins : (e : Exp) (es : Exps) (rest : List ℕ) → IsItem e → is_item (front_of (inside (next_exp e es) rest)) ≡ true
inside_begins e no_exps rest item = ap (λ s. is_item (front_of s)) (last_inside e rest) ∙ item.begins (41 ∷ rest) refl
inside_begins e (next_exp f es) rest item = ap (λ s. is_item (front_of s)) (more_inside e f es rest) ∙ item.begins (44 ∷ 32 ∷ inside (next_exp f es) rest) refl

items_within : (es : Exps) (rest : List ℕ) → count_exps es ≤ length (inside es rest)
items_within es rest =
    let text = separated (codes ", ") (exp_texts es) in
    omega (arith, count_within es, length-append (text ++ codes ")") rest, length-append text (codes ")"))

pub group_reads : (k : ℕ) (es : Exps) (rest : List ℕ) → AreItems es → depth_exps es ≤ k → group_at (exp_nested k) (inside es rest) ≡ Some (group_of es, rest)
unfolding front_of
group_reads k no_exps rest are h = refl
group_reads k (next_exp e es) rest are h =
    let text = inside (next_exp e es) rest in
    group_items (exp_nested k) (length text) text (front_of text) (inside_begins e es rest are.0)
    ∙ ap (λ o. behind o (λ es rest. Some (items es, rest))) (items_read k (length text) e es rest are h (items_within (next_exp e es) rest))

group_step : (k n : ℕ) (stage : Stage) (es : Exps) (rest : List ℕ) → AreItems es → depth_exps es ≤ k
    → Behind k (suc n) stage (40 ∷ inside es rest) ≡ Behind k n (with_group stage (group_of es)) rest
unfolding suffix_of
group_step k n stage es rest are h = ap (λ o. behind o (λ g. Behind k n (with_group stage g))) (group_reads k es rest are h)

pub call_reads : (a : Exp) (args : Exps) → Reads a → AreItems args → Reads (call_of a args)
call_reads a args reads are k n rest enough fuel f =
    let again = append_assoc (exp_text a) (arguments_text args) rest in
    ap (exp_nested (suc k)) again
    ∙ reads k (suc n) (40 ∷ inside args rest) (omega arith) (omega (arith, fuel, ap length again)) refl
    ∙ group_step k n (stage_of a) args rest are (omega arith)

-- ---- what is made anew

new_head : (read : List ℕ → Option (Exp × List ℕ)) (s : List ℕ) → head_at read (codes "New " ++ s) ≡ behind (behind (base_at s) (λ t rest. Some (leaf (ranked t []), rest))) (opened read)
unfolding start_of keyword_of
new_head read s = refl

-- New and a type are read up to their suffixes
new_reads : (k n : ℕ) (t : TypeName) (tail : List ℕ) → is_array t ≡ false → is_writable_type t ≡ true → ends_path tail ≡ true → length (codes "New " ++ (type_text t ++ tail)) ≡ n
    → exp_nested (suc k) (codes "New " ++ (type_text t ++ tail)) ≡ Behind k n (ranked t []) tail
new_reads k n t tail plain w e count =
    let s = codes "New " ++ (type_text t ++ tail) in
    let head : head_at (exp_nested k) s ≡ Some (ranked t [], tail)
    = new_head (exp_nested k) (type_text t ++ tail) ∙ ap (λ o. behind (behind o (λ t rest. Some (leaf (ranked t []), rest))) (opened (exp_nested k))) (base_reads t tail plain w e) in
    ap (λ o. behind o (Behind k (length s))) head ∙ ap (λ m. Behind k m (ranked t []) tail) count

object_text : (t args rest : List ℕ) → (codes "New " ++ t ++ args) ++ rest ≡ codes "New " ++ (t ++ (args ++ rest))
object_text t args rest = simp append_assoc

pub object_reads : (t : TypeName) (args : Exps) → is_array t ≡ false → is_writable_type t ≡ true → AreItems args → Reads (new_object t args)
object_reads t args plain w are k n rest enough fuel f =
    let again = object_text (type_text t) (arguments_text args) rest in
    let tail = 40 ∷ inside args rest in
    let count : length (codes "New " ++ (type_text t ++ tail)) ≡ suc n = omega (arith, fuel, ap length again) in
    ap (exp_nested (suc k)) again ∙ new_reads k (suc n) t tail plain w refl count
    ∙ group_step k n (ranked t []) args rest are (omega arith)

abbrev ranks_of : TypeName → List ℕ
ranks_of (ty.array_of element r) = r ∷ ranks_of element
ranks_of _ = []

ranked_back : (t : TypeName) → with_ranks (base_of t) (ranks_of t) ≡ t
ranked_back (ty.array_of element r) = ap (λ x. ty.array_of x r) (ranked_back element)
ranked_back _ = refl

rank_group : (read : List ℕ → Option (Exp × List ℕ)) (r : ℕ) (rest : List ℕ) → (r == 0) ≡ false → group_at read ((replicate (r - 1) 44 ++ codes ")") ++ rest) ≡ Some (rank r, rest)
unfolding front_of
rank_group read zero rest h = never (sym h)
rank_group read (suc zero) rest h = refl
rank_group read (suc (suc m)) rest h =
    let s = (replicate (suc (suc m) - 1) 44 ++ codes ")") ++ rest in
    let fewer : suc (suc m) - 1 ≡ suc m = omega arith in
    let front : front_of s ≡ opens.Comma = ap (λ c. front_of ((replicate c 44 ++ codes ")") ++ rest)) fewer in
    ap (group_by read (length s) s) front ∙ ap (λ (o : Option (ℕ × List ℕ)). behind o (λ r rest. Some (rank r, rest))) (rank_inside (suc (suc m)) rest h)

rank_step : (k n : ℕ) (t : TypeName) (ranks : List ℕ) (r : ℕ) (rest : List ℕ) → (r == 0) ≡ false
    → Behind k (suc n) (ranked t ranks) (rank_text r ++ rest) ≡ Behind k n (ranked t (r ∷ ranks)) rest
unfolding suffix_of
rank_step k n t ranks r rest h = ap (λ o. behind o (λ g. Behind k n (with_group (ranked t ranks) g))) (rank_group (exp_nested k) r rest h)

ranks_read : (t : TypeName) (k n : ℕ) (rest : List ℕ) → is_writable_type t ≡ true
    → Behind k (depth_type t + n) (ranked (base_of t) []) (ranks_text t ++ rest) ≡ Behind k n (ranked (base_of t) (ranks_of t)) rest
ranks_read (ty.array_of element r) k n rest h =
    let parts = element_can element r h in
    let depth : suc (depth_type element) + n ≡ depth_type element + suc n = omega arith in
    ap (λ m. Behind k m (ranked (base_of element) []) (ranks_text (ty.array_of element r) ++ rest)) depth
    ∙ ap (Behind k (depth_type element + suc n) (ranked (base_of element) [])) (ranks_last element r rest)
    ∙ ranks_read element k (suc n) (rank_text r ++ rest) parts.0
    ∙ rank_step k n (base_of element) (ranks_of element) r rest (not-true (r == 0) parts.1)
ranks_read ty.boolean k n rest h = ap (λ m. Behind k m (ranked ty.boolean []) rest) (zero-add n)
ranks_read ty.byte k n rest h = ap (λ m. Behind k m (ranked ty.byte []) rest) (zero-add n)
ranks_read ty.short k n rest h = ap (λ m. Behind k m (ranked ty.short []) rest) (zero-add n)
ranks_read ty.integer k n rest h = ap (λ m. Behind k m (ranked ty.integer []) rest) (zero-add n)
ranks_read ty.long k n rest h = ap (λ m. Behind k m (ranked ty.long []) rest) (zero-add n)
ranks_read ty.decimal k n rest h = ap (λ m. Behind k m (ranked ty.decimal []) rest) (zero-add n)
ranks_read ty.str k n rest h = ap (λ m. Behind k m (ranked ty.str []) rest) (zero-add n)
ranks_read ty.object k n rest h = ap (λ m. Behind k m (ranked ty.object []) rest) (zero-add n)
ranks_read ty.system_array k n rest h = ap (λ m. Behind k m (ranked ty.system_array []) rest) (zero-add n)
ranks_read (ty.named names) k n rest h = ap (λ m. Behind k m (ranked (ty.named names) []) rest) (zero-add n)

-- the braces behind the bounds
braces_step : (k n : ℕ) (t : TypeName) (ranks : List ℕ) (bounds : Exps) (rest : List ℕ)
    → Behind k (suc n) (with_group (ranked t ranks) (group_of bounds)) (codes " {}" ++ rest) ≡ Behind k n (whole (new_array (with_ranks t ranks) bounds)) rest
unfolding suffix_of
braces_step k n t ranks no_exps rest = refl
braces_step k n t ranks (next_exp b bs) rest = refl

array_text : (base ranks bounds rest : List ℕ) → (codes "New " ++ (base ++ ranks) ++ (codes "(" ++ bounds ++ codes ")") ++ codes " {}") ++ rest
    ≡ codes "New " ++ (base ++ (ranks ++ (40 ∷ ((bounds ++ codes ")") ++ (codes " {}" ++ rest)))))
array_text base ranks bounds rest = simp append_assoc

pub array_reads : (t : TypeName) (bounds : Exps) → is_writable_type t ≡ true → AreItems bounds → Reads (new_array t bounds)
array_reads t bounds w are k n rest enough fuel f =
    let tail = 40 ∷ inside bounds (codes " {}" ++ rest) in
    let again : exp_text (new_array t bounds) ++ rest ≡ codes "New " ++ (type_text (base_of t) ++ (ranks_text t ++ tail))
    = ap (λ s. (codes "New " ++ s ++ arguments_text bounds ++ codes " {}") ++ rest) (type_parts t) ∙ array_text (type_text (base_of t)) (ranks_text t) (separated (codes ", ") (exp_texts bounds)) rest in
    let count : length (codes "New " ++ (type_text (base_of t) ++ (ranks_text t ++ tail))) ≡ depth_type t + suc (suc n) = omega (arith, fuel, ap length again) in
    ap (exp_nested (suc k)) again
    ∙ new_reads k (depth_type t + suc (suc n)) (base_of t) (ranks_text t ++ tail) (base_is_none t) (base_is_writable t w) (ends_ranks t tail refl) count
    ∙ ranks_read t k (suc (suc n)) tail w
    ∙ group_step k (suc n) (ranked (base_of t) (ranks_of t)) bounds (codes " {}" ++ rest) are (omega arith)
    ∙ braces_step k n (base_of t) (ranks_of t) bounds rest
    ∙ ap (λ x. Behind k n (whole (new_array x bounds)) rest) (ranked_back t)

-- ---- the bound -1

bound_text : exp_text (lit (integer (negsuc 0) false)) ≡ 45 ∷ 49 ∷ []
unfolding digits
bound_text = refl

minus_head : (read : List ℕ → Option (Exp × List ℕ)) (rest : List ℕ) → head_at read (45 ∷ 49 ∷ rest) ≡ Some (whole (lit (integer (negsuc 0) false)), rest)
unfolding start_of
minus_head read rest = refl

minus_front : (s : List ℕ) → front_of (45 ∷ s) ≡ opens.Minus
unfolding front_of
minus_front s = refl

bound_is_item : IsItem (lit (integer (negsuc 0) false))
bound_is_item = record {
  read = reads_whole (lit (integer (negsuc 0) false)) (reads_head (lit (integer (negsuc 0) false)) refl refl (λ k rest h e. ap (λ s. head_at (exp_nested k) (s ++ rest)) bound_text ∙ minus_head (exp_nested k) rest));
  begins = λ rest e. ap (λ s. is_item (front_of (s ++ rest))) bound_text ∙ ap is_item (minus_front (49 ∷ rest));
}

pub no_bound_is_item : (e : Exp) → is_no_bound e ≡ true → IsItem e
no_bound_is_item (lit (integer (negsuc zero) false)) h = bound_is_item
no_bound_is_item _ h = never h

pub is_operand_item : (e : Exp) → IsOperand e → ReadsWhole e → IsItem e
is_operand_item e front inner = record { read = inner; begins = λ rest ends. ap is_item (front rest (follows_end e rest ends)) }
