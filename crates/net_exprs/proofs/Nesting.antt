-- What an expression begins with, where something in it doesn't fit.
use Rattle.std.proofs.Common.{◌≡◌, ℕ, suc, ◌+◌, Bool, true, false, ◌&&◌, nat_le, ◌==◌, List, [], ◌∷◌, codes, refl, sym, subst, arith, Option, Some, None, Result, Bor}
use Rattle.std.specs.Prelude.{negsuc}
use Rattle.std.proofs.lemmas.Bool.{and_left}
use Rattle.net_tree.specs.declared.expression.NetBin.{NetBin}
use Rattle.net_tree.specs.declared.expression.NetUn.TheVariants as un
use Rattle.net_tree.specs.Types.{TypeName}
use Rattle.net_tree.specs.Tree.{Exp, binary, cast, ctype, integer, lit, paren, path, type_of, unary, with_dot}
use Rattle.net_tree.specs.Depth.{depth_exp}
use Rattle.net_exprs.specs.declared.openings.Nest.{Nest}
use Rattle.net_exprs.specs.declared.openings.Nest.TheVariants as nest
use Rattle.net_exprs.specs.declared.starts.Front.{Front}
use Rattle.net_exprs.specs.declared.starts.Front.TheVariants as opens
use Rattle.net_exprs.specs.declared.starts.Keyword.{Keyword}
use Rattle.net_exprs.specs.declared.starts.Keyword.TheVariants as key
use Rattle.net_exprs.specs.declared.starts.Start.{Start}
use Rattle.net_exprs.specs.declared.starts.Start.TheVariants as start
use Rattle.net_exprs.specs.Readers.{after, behind, past, word_at}
use Rattle.net_exprs.specs.declared.fail.PhraseFail.{PhraseFail}
use Rattle.net_exprs.specs.Answers.{Answers, FailsFor, Misfits}
use Rattle.net_exprs.specs.Names.{name_at, path_at}
use Rattle.net_exprs.specs.Literals.{literal_at}
use Rattle.net_exprs.specs.Types.{base_at, type_at}
use Rattle.net_exprs.specs.Expressions.{Opening, Stage, bounded, closed, closed_type, exp_nested, front_of, head_at, keyword_of, leaf, nest_behind, nested, nested_past, new_opening, opened, opening_at, operand_behind, operator_at, parenthesized, path_opening, ranked, start_of, started, type_behind, type_closed, whole, worded}
use Rattle.net_exprs.specs.Fitting.{fits_exp, fits_in, fits_type}
use Rattle.net_exprs.specs.Openings.{fits_opening}
use Rattle.net_exprs.specs.Stages.{fits_stage, fits_stage_in, stage_depth}
use Rattle.net_exprs.proofs.Answering.{fails_up, misfits_always, misfits_behind}
use Rattle.net_exprs.proofs.Rooms.{Each, answers_room, is_misfit, misfit_up}
use Rattle.net_exprs.proofs.Words.{by_test, never}

abbrev Read : Type 0
Read = List ℕ → Option (Exp × List ℕ)

-- ---- what closes a nested expression

misfits_past : {X : Type 0} (fits : X → Bool) (o : Option (List ℕ)) (go : List ℕ → Option (X × List ℕ)) → ((s : List ℕ) → Misfits fits (go s)) → Misfits fits (past o go)
misfits_past fits None go all = tt
misfits_past fits (Some s) go all = all s

type_behind_misfits : (s : List ℕ) → Misfits fits_type (type_at s) → Misfits fits_type (behind (type_at s) type_closed)
type_behind_misfits s h = misfits_behind fits_type fits_type (type_at s) type_closed (λ t rest k. misfits_past fits_type (after (codes ")") rest) (λ rest. Some (t, rest)) (λ rest. k)) h

pub type_behind_fails : (text s beyond : List ℕ) (e : PhraseFail) → after text s ≡ Some beyond → FailsFor fits_type (type_at beyond) e → FailsFor fits_type (type_behind text s) e
type_behind_fails text s beyond e h k = rw h (fails_up fits_type fits_type (type_at beyond) (behind (type_at beyond) type_closed) e (type_behind_misfits beyond) k)

closed_misfits : (room : ℕ) (make : Exp → Exp) (e : Exp) (s : List ℕ) → fits_in (suc room) (make e) ≡ false → Misfits (fits_stage_in room) (closed make e s)
closed_misfits room make e s h = misfits_past (fits_stage_in room) (after (codes ")") s) (λ rest. Some (whole (make e), rest)) (λ rest. h)

typed_misfits : (room : ℕ) (text : List ℕ) (make : Exp → TypeName → Exp) (e : Exp) (s : List ℕ) → ((t : TypeName) → fits_in (suc room) (make e t) ≡ false)
    → Misfits (fits_stage_in room) (closed_type text make e s)
typed_misfits room text make e s h = misfits_always (fits_stage_in room) (type_behind text s) (λ t rest. Some (whole (make e t), rest)) (λ t rest. h t)

-- an expression that has another as its only part, and as a part beside something else
alone : (room : ℕ) (e : Exp) → fits_in room e ≡ false → fits_exp e && nat_le (suc (depth_exp e)) (suc room) ≡ false
alone room e h = misfit_up (fits_exp e) (fits_exp e) (depth_exp e) room (suc (depth_exp e)) (suc room) (λ f. f) (λ l. omega (arith, l)) h

beside : (room : ℕ) (e : Exp) (b : Bool) → fits_in room e ≡ false → (fits_exp e && b) && nat_le (suc (depth_exp e)) (suc room) ≡ false
beside room e b h = misfit_up (fits_exp e) (fits_exp e && b) (depth_exp e) room (suc (depth_exp e)) (suc room) (λ f. and_left (fits_exp e) b f) (λ l. omega (arith, l)) h

left_misfits : (room : ℕ) (o : NetBin) (e f : Exp) → fits_in room e ≡ false → fits_in (suc room) (binary o e f) ≡ false
left_misfits room o e f h =
    misfit_up (fits_exp e) (fits_exp e && fits_exp f) (depth_exp e) room (depth_exp (binary o e f)) (suc room) (λ k. and_left (fits_exp e) (fits_exp f) k) (λ l. omega (arith, l)) h

operand_misfits : (room : ℕ) (read : Read) (e : Exp) (s : List ℕ) → fits_in room e ≡ false → Misfits (fits_stage_in room) (operand_behind read e s)
operand_misfits room read e [] h = tt
operand_misfits room read e (c ∷ s) h =
    by_test (c == 41)
    (λ t. Misfits (fits_stage_in room) (elim t [ true ↦ Some (whole (paren e), s) | false ↦ behind (operator_at (c ∷ s)) (λ o s. behind (read s) (closed (binary o e))) ]))
    (λ t. alone room e h)
    (λ t. misfits_always (fits_stage_in room) (operator_at (c ∷ s)) (λ o s. behind (read s) (closed (binary o e)))
    (λ o s. misfits_always (fits_stage_in room) (read s) (closed (binary o e)) (λ f rest. closed_misfits room (binary o e) f rest (left_misfits room o e f h))))

nest_misfits : (room : ℕ) (read : Read) (n : Nest) (e : Exp) (s : List ℕ) → fits_in room e ≡ false → Misfits (fits_stage_in room) (nest_behind read n e s)
nest_misfits room read (nest.Cast w) e s h = closed_misfits room (cast w) e s (alone room e h)
nest_misfits room read nest.Convert e s h = typed_misfits room (codes ", ") ctype e s (λ t. beside room e (fits_type t) h)
nest_misfits room read (nest.Unary o) e s h = closed_misfits room (unary o) e s (alone room e h)
nest_misfits room read nest.TypeTest e s h = typed_misfits room (codes " Is ") type_of e s (λ t. beside room e (fits_type t) h)
nest_misfits room read nest.Parentheses e s h = operand_misfits room read e s h

pub nested_misfits : (room : ℕ) (n : Nest) (s : List ℕ) → Misfits (fits_in room) (exp_nested room s) → Misfits (fits_stage_in room) (behind (exp_nested room s) (nest_behind (exp_nested room) n))
nested_misfits room n s h = misfits_behind (fits_in room) (fits_stage_in room) (exp_nested room s) (nest_behind (exp_nested room) n) (λ e rest k. nest_misfits room (exp_nested room) n e rest k) h

-- what closes a nested expression is read without any room, since it makes it deeper by one
pub nest_answers : {A : Type 0} (view : A → Stage) (room : ℕ) (n m : Nest) (s : List ℕ) (e : Exp) (rest : List ℕ) (r : Result (A × Bor (List ℕ)) PhraseFail) → n ≡ m → exp_nested room s ≡ Some (e, rest)
    → Answers view fits_stage (nest_behind (exp_nested room) m e rest) r → Answers view (fits_stage_in room) (behind (exp_nested room s) (nest_behind (exp_nested room) n)) r
nest_answers view room n m s e rest r same h a =
    subst (λ x. Answers view (fits_stage_in room) (behind (exp_nested room s) (nest_behind (exp_nested room) x)) r) (sym same)
    (subst (λ o. Answers view (fits_stage_in room) (behind o (nest_behind (exp_nested room) m)) r) (sym h) (answers_room view fits_stage stage_depth (suc room) (nest_behind (exp_nested room) m e rest) r a))

-- ---- what needs no other expression

pub opening_misfits : (room : ℕ) (s : List ℕ) → Misfits fits_opening (opening_at s) → Misfits (fits_stage_in room) (head_at (exp_nested room) s)
opening_misfits room s h = misfits_behind fits_opening (fits_stage_in room) (opening_at s) (opened (exp_nested room)) go h
  where
    go : (x : Opening) (rest : List ℕ) → fits_opening x ≡ false → Misfits (fits_stage_in room) (opened (exp_nested room) x rest)
    go (leaf stage) rest k = is_misfit (fits_stage stage) (stage_depth stage) (suc room) k
    go (nested n) rest k = never (sym k)

-- nothing is nested in it
abbrev IsFlatStage : Stage → Type 0
IsFlatStage (whole e) = depth_exp e ≡ 1
IsFlatStage (ranked t ranks) = Unit {0}
IsFlatStage (bounded t ranks bounds) = Unit {0}

abbrev IsFlat : Opening → Type 0
IsFlat (leaf stage) = IsFlatStage stage
IsFlat (nested n) = Unit {0}

always_behind : {X Y : Type 0} (Q : Y → Type 0) (o : Option (X × List ℕ)) (go : X → List ℕ → Option (Y × List ℕ)) → ((x : X) (rest : List ℕ) → Each Q (go x rest)) → Each Q (behind o go)
always_behind Q None go k = tt
always_behind Q (Some part) go k = k part.0 part.1

each_past : {Y : Type 0} (Q : Y → Type 0) (o : Option (List ℕ)) (go : List ℕ → Option (Y × List ℕ)) → ((s : List ℕ) → Each Q (go s)) → Each Q (past o go)
each_past Q None go k = tt
each_past Q (Some s) go k = k s

opening_is_flat : (s : List ℕ) → Each IsFlat (opening_at s)
opening_is_flat [] = tt
opening_is_flat (c ∷ s) = by_start (start_of c)
  where
    paths : (s : List ℕ) → Each IsFlat (path_opening s)
    paths s = always_behind IsFlat (path_at s) (λ names rest. Some (leaf (whole (path names)), rest)) (λ names rest. refl)

    nests : (n : Nest) (o : Option (List ℕ)) → Each IsFlat (nested_past n o)
    nests n o = each_past IsFlat o (λ s. Some (nested n, s)) (λ s. tt)

    news : (s : List ℕ) → Each IsFlat (new_opening s)
    news s = each_past IsFlat (after (codes " ") s) (λ s. behind (base_at s) (λ t rest. Some (leaf (ranked t []), rest)))
        (λ s. always_behind IsFlat (base_at s) (λ t rest. Some (leaf (ranked t []), rest)) (λ t rest. tt))

    words : (rest s : List ℕ) (k : Option Keyword) → Each IsFlat (worded rest s k)
    words rest s (Some key.Nothing) = refl
    words rest s (Some key.Me) = refl
    words rest s (Some key.True) = refl
    words rest s (Some key.False) = refl
    words rest s (Some (key.Cast w)) = nests (nest.Cast w) (after (codes "(") rest)
    words rest s (Some key.CType) = nests nest.Convert (after (codes "(") rest)
    words rest s (Some key.New) = news rest
    words rest s None = paths s

    fronts : (s : List ℕ) (x : Front) → Each IsFlat (parenthesized s x)
    fronts s opens.Closing = tt
    fronts s opens.Comma = tt
    fronts s opens.Minus = nests (nest.Unary un.Neg) (after (codes "-") s)
    fronts s opens.Negation = nests (nest.Unary un.Not) (after (codes "Not ") s)
    fronts s opens.TypeTest = nests nest.TypeTest (after (codes "TypeOf ") s)
    fronts s opens.Operand = tt

    by_start : (x : Start) → Each IsFlat (started (c ∷ s) s x)
    by_start start.Literal = always_behind IsFlat (literal_at (c ∷ s)) (λ l rest. Some (leaf (whole (lit l)), rest)) (λ l rest. refl)
    by_start start.Word = words (word_at (c ∷ s)).1 (c ∷ s) (keyword_of (word_at (c ∷ s)).0)
    by_start start.Bracket = paths (c ∷ s)
    by_start start.Point = always_behind IsFlat (name_at s) (λ name rest. Some (leaf (whole (with_dot name)), rest)) (λ name rest. refl)
    by_start start.Opening = fronts s (front_of s)
    by_start start.Minus = each_past IsFlat (after (codes "1") s) (λ rest. Some (leaf (whole (lit (integer (negsuc 0) false))), rest)) (λ rest. refl)
    by_start start.Other = tt

pub leaf_leaves : (room : ℕ) (s : List ℕ) (e : Exp) (rest : List ℕ) → opening_at s ≡ Some (leaf (whole e), rest) → room + depth_exp e ≡ suc room
leaf_leaves room s e rest h =
    let flat : depth_exp e ≡ 1 = subst (λ o. Each IsFlat o) h (opening_is_flat s) in
    omega (arith, flat)
