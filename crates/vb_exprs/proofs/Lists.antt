-- The reading of an argument list.
use Rattle.std.proofs.Common.{◌≡◌, ℕ, ◌≤◌, max, List, [], ◌∷◌, ◌++◌, refl, sym, ap, ◌∙◌, subst, arith, Bool, true, false, Option, Some, None, is_some}
use Rattle.vb_tree.specs.declared.expression.Arg6.{Arg6}
use Rattle.vb_tree.specs.Tree.{Args, Given, next_arg}
use Rattle.vb_tree.specs.Tree as exp
use Rattle.vb_tree.specs.View.{args_of, given_of}
use Rattle.vb_tree.specs.Expressions.{Symbol, by_val_word, closing, comma, hash, Naming, name_of, Written, WrittenArgs, no_args, arg, WrittenValue, omitted, given, Mark, by_val, number_sign, spelling, more_spelling, value_spelling, name_spelling, mark_spelling, AreGrouped, IsArgument, IsNoLoneOmitted, arg_trees, value_tree, name_before, args_depth, given_depth}
use Rattle.vb_exprs.specs.Reading.{NoTighter, Stands, ArgsStand, ArgumentStands, EndsArgument, IsArg, IsMark, IsOptionalName, IsOptionalMark}
use Rattle.vb_exprs.proofs.Spelled.{IsValueStart, starts_value, ends_more, argument_assoc}
use Rattle.vb_exprs.proofs.Spines.{below_15}

-- the arguments before others
abbrev pub args_before : List Arg6 → Args → Args
args_before [] more = more
args_before (a ∷ done) more = next_arg a.name a.marked (given_of a.value) (args_before done more)

args_before-none : (done : List Arg6) → args_before done exp.no_args ≡ args_of done
args_before-none [] = refl
args_before-none (a ∷ done) = ap (next_arg a.name a.marked (given_of a.value)) (args_before-none done)

-- what is left of args, where the next argument begins
pub record Remains (done : List Arg6) (now : List Symbol) (args : WrittenArgs) (end : List Symbol) : Type 0 where
  pub name : Option Naming
  pub mark : Option Mark
  pub value : WrittenValue
  pub more : WrittenArgs
  pub whole : arg_trees args ≡ args_before done (arg_trees (arg name mark value more))
  pub argument : IsArgument name mark value
  pub grouped : AreGrouped more
  pub spelled : now ≡ name_spelling name ++ (mark_spelling mark ++ (value_spelling value ++ (more_spelling more ++ closing ∷ end)))

args_before_push : (done : List Arg6) (a : Arg6) (more : Args) → args_before (done ++ a ∷ []) more ≡ args_before done (next_arg a.name a.marked (given_of a.value) more)
args_before_push [] a more = refl
args_before_push (x ∷ done) a more = ap (next_arg x.name x.marked (given_of x.value)) (args_before_push done a more)

pub args_depth_push : (done : List Arg6) (a : Arg6) → args_depth (args_of (done ++ a ∷ [])) ≡ max (args_depth (args_of done)) (given_depth (given_of a.value))
args_depth_push [] a = omega arith
args_depth_push (x ∷ done) a = omega (arith, args_depth_push done a)

depth_before : (done : List Arg6) (more : Args) → args_depth more ≤ args_depth (args_before done more)
depth_before [] more = omega arith
depth_before (x ∷ done) more = omega (arith, depth_before done more)

pub begin_args : (args : WrittenArgs) (now end : List Symbol) → ArgsStand args now end → ((rest : List Symbol) → now ≡ closing ∷ rest → ⊥) → Remains [] now args end
begin_args no_args now end h not_closing = absurd (not_closing end h.spelled)
begin_args (arg name mark value more) now end h not_closing = record {
  name = name;
  mark = mark;
  value = value;
  more = more;
  whole = refl;
  argument = h.grouped.0;
  grouped = h.grouped.1;
  spelled = h.spelled ∙ argument_assoc name mark (value_spelling value) (more_spelling more) (closing ∷ end);
}

-- a list that closes at once is empty
closes : (name : Option Naming) (mark : Option Mark) (value : WrittenValue) (more : WrittenArgs) (end after : List Symbol) → IsArgument name mark value → IsNoLoneOmitted (arg name mark value more) → name_spelling name ++ (mark_spelling mark ++ (value_spelling value ++ (more_spelling more ++ closing ∷ end))) ≡ closing ∷ after → ⊥
closes (Some n) mark value more end after g k e = absurd (cc)
closes None (Some (by_val w)) value more end after g k e = absurd (cc)
closes None (Some number_sign) value more end after g k e = absurd (cc)
closes None None (given t) more end after g k e = subst IsValueStart e (starts_value t (more_spelling more ++ closing ∷ end) g (ends_more more end))
closes None None omitted no_args end after g k e = k
closes None None omitted (arg name mark value more) end after g k e = absurd (cc)

pub empty_args : (args : WrittenArgs) (now after end : List Symbol) → ArgsStand args now end → now ≡ closing ∷ after → (args ≡ no_args) × (after ≡ end)
empty_args no_args now after end h e = (refl, cc (h.spelled, e))
empty_args (arg name mark value more) now after end h e =
    absurd (closes name mark value more end after h.grouped.0 h.not_lone (sym (argument_assoc name mark (value_spelling value) (more_spelling more) (closing ∷ end)) ∙ sym h.spelled ∙ e))

pub argument_stands : (done : List Arg6) (now end : List Symbol) (args : WrittenArgs) (r : Remains done now args end) → ArgumentStands r.name r.mark r.value now (more_spelling r.more ++ closing ∷ end)
argument_stands done now end args r = record { grouped = r.argument; spelled = r.spelled; ends = ends_more r.more end }

pub depth_left : (done : List Arg6) (now end : List Symbol) (args : WrittenArgs) (r : Remains done now args end) → given_depth (value_tree r.value) ≤ args_depth (arg_trees args)
depth_left done now end args r = omega (arith, depth_before done (arg_trees (arg r.name r.mark r.value r.more)), ap args_depth r.whole)

one_more : (done : List Arg6) (a : Arg6) (name : Option Naming) (mark : Option Mark) (value : WrittenValue) (more : WrittenArgs) → IsArg a (name_before name) (is_some mark) (value_tree value) → args_before done (arg_trees (arg name mark value more)) ≡ args_before (done ++ a ∷ []) (arg_trees more)
one_more done a name mark value more h =
    let e : next_arg (name_before name) (is_some mark) (value_tree value) (arg_trees more) ≡ next_arg a.name a.marked (given_of a.value) (arg_trees more) = cc (h.name_is, h.marked_is, h.value_is) in
    ap (args_before done) e ∙ sym (args_before_push done a (arg_trees more))

pub after_comma : (done : List Arg6) (now end after : List Symbol) (args : WrittenArgs) (a : Arg6) (r : Remains done now args end) → IsArg a (name_before r.name) (is_some r.mark) (value_tree r.value) → more_spelling r.more ++ closing ∷ end ≡ comma ∷ after → Remains (done ++ a ∷ []) after args end
after_comma done now end after args a r h e = go r.more (r.whole ∙ one_more done a r.name r.mark r.value r.more h) r.grouped e
  where
    go : (more : WrittenArgs) → arg_trees args ≡ args_before (done ++ a ∷ []) (arg_trees more) → AreGrouped more → more_spelling more ++ closing ∷ end ≡ comma ∷ after → Remains (done ++ a ∷ []) after args end
    go no_args w g e = absurd (cc)
    go (arg name mark value more) w g e = record {
      name = name;
      mark = mark;
      value = value;
      more = more;
      whole = w;
      argument = g.0;
      grouped = g.1;
      spelled = (let s : after ≡ (name_spelling name ++ (mark_spelling mark ++ (value_spelling value ++ more_spelling more))) ++ closing ∷ end = cc in s) ∙ argument_assoc name mark (value_spelling value) (more_spelling more) (closing ∷ end);
    }

pub after_last : (done : List Arg6) (now end after : List Symbol) (args : WrittenArgs) (a : Arg6) (r : Remains done now args end) → IsArg a (name_before r.name) (is_some r.mark) (value_tree r.value) → more_spelling r.more ++ closing ∷ end ≡ closing ∷ after → (args_of (done ++ a ∷ []) ≡ arg_trees args) × (after ≡ end)
after_last done now end after args a r h e = go r.more (r.whole ∙ one_more done a r.name r.mark r.value r.more h) e
  where
    go : (more : WrittenArgs) → arg_trees args ≡ args_before (done ++ a ∷ []) (arg_trees more) → more_spelling more ++ closing ∷ end ≡ closing ∷ after → (args_of (done ++ a ∷ []) ≡ arg_trees args) × (after ≡ end)
    go no_args w e = (sym (args_before-none (done ++ a ∷ [])) ∙ sym w, cc)
    go (arg name mark value more) w e = absurd (cc)

pub comma_or_close : (more : WrittenArgs) (end : List Symbol) → ((ts : List Symbol) → more_spelling more ++ closing ∷ end ≡ comma ∷ ts → ⊥) → ((ts : List Symbol) → more_spelling more ++ closing ∷ end ≡ closing ∷ ts → ⊥) → ⊥
comma_or_close no_args end c d = d end refl
comma_or_close (arg name mark value more) end c d = c _ refl

-- one argument

-- an argument that ends at once is left out
pub argument_omitted : (name : Option Naming) (mark : Option Mark) (value : WrittenValue) (now rest : List Symbol) → ArgumentStands name mark value now rest → EndsArgument now → (name ≡ None) × (mark ≡ None) × (value ≡ omitted) × (now ≡ rest)
argument_omitted (Some n) mark value now rest h e = absurd (subst EndsArgument h.spelled e)
argument_omitted None (Some (by_val w)) value now rest h e = absurd (subst EndsArgument h.spelled e)
argument_omitted None (Some number_sign) value now rest h e = absurd (subst EndsArgument h.spelled e)
argument_omitted None None omitted now rest h e = (refl, refl, refl, h.spelled)
argument_omitted None None (given t) now rest h e =
    absurd (no_start (spelling t ++ rest) (starts_value t rest h.grouped h.ends) (subst EndsArgument h.spelled e))
  where
    no_start : (ts : List Symbol) → IsValueStart ts → EndsArgument ts → ⊥
    no_start [] s e = e
    no_start (comma ∷ ts) s e = s
    no_start (closing ∷ ts) s e = s
    no_start (_ ∷ ts) s e = e

ends_no_tighter : (n : ℕ) (rest : List Symbol) → EndsArgument rest → NoTighter n rest
ends_no_tighter n (comma ∷ ts) h = tt
ends_no_tighter n (closing ∷ ts) h = tt
ends_no_tighter n [] h = absurd h
ends_no_tighter n (_ ∷ ts) h = absurd h

-- any other has a value
pub record HasValue (name : Option Naming) (mark : Option Mark) (value : WrittenValue) (now rest : List Symbol) : Type 0 where
  pub tree : Written
  pub is : value ≡ given tree
  pub spelled : now ≡ name_spelling name ++ (mark_spelling mark ++ (spelling tree ++ rest))
  pub stands : Stands 15 tree (spelling tree ++ rest) rest
  pub start : IsValueStart (spelling tree ++ rest)

pub argument_given : (name : Option Naming) (mark : Option Mark) (value : WrittenValue) (now rest : List Symbol) → ArgumentStands name mark value now rest → (EndsArgument now → ⊥) → HasValue name mark value now rest
argument_given name mark (given t) now rest h e = record {
  tree = t;
  is = refl;
  spelled = h.spelled;
  stands = record { grouped = h.grouped; joined = below_15 t; spelled = refl; closed = ends_no_tighter _ rest h.ends; stops = ends_no_tighter 15 rest h.ends };
  start = starts_value t rest h.grouped h.ends;
}
argument_given None None omitted now rest h e = absurd (e (subst EndsArgument (sym h.spelled) h.ends))
argument_given None (Some k) omitted now rest h e = absurd h.grouped
argument_given (Some n) mark omitted now rest h e = absurd h.grouped

-- what the two small readers answer there
pub name_read : (name : Option Naming) (got : Option (List ℕ)) (mark : Option Mark) (value now after : List Symbol) → now ≡ name_spelling name ++ (mark_spelling mark ++ value) → IsValueStart value → IsOptionalName now got after → (got ≡ name_before name) × (after ≡ mark_spelling mark ++ value)
name_read None None mark value now after e s h = (refl, sym h.0 ∙ e)
name_read (Some n) None mark value now after e s h = absurd (h.1 n _ e)
name_read (Some n) (Some g) mark value now after e s h =
    let same : h.0 ≡ n = cc (h.1, e) in
    (ap Some (sym h.2 ∙ ap name_of same), cc (h.1, e))
name_read None (Some g) (Some (by_val w)) value now after e s h = absurd (cc (h.1, e))
name_read None (Some g) (Some number_sign) value now after e s h = absurd (cc (h.1, e))
name_read None (Some g) None value now after e s h = absurd (subst IsValueStart (sym e ∙ h.1) s)

mark_no_start : (s : Symbol) (ts : List Symbol) → IsMark s → IsValueStart (s ∷ ts) → ⊥
mark_no_start (by_val_word w) ts h k = k
mark_no_start hash ts h k = k
mark_no_start _ ts h k = h

pub mark_read : (mark : Option Mark) (got : Bool) (value now after : List Symbol) → now ≡ mark_spelling mark ++ value → IsValueStart value → IsOptionalMark now got after → (got ≡ is_some mark) × (after ≡ value)
mark_read None true value now after e s h = absurd (mark_no_start h.0 after h.2 (subst IsValueStart (sym e ∙ h.1) s))
mark_read (Some (by_val w)) true value now after e s h = (refl, cc (h.1, e))
mark_read (Some number_sign) true value now after e s h = (refl, cc (h.1, e))
mark_read None false value now after e s h = (refl, sym h.0 ∙ e)
mark_read (Some (by_val w)) false value now after e s h = absurd (h.1 (by_val_word w) value e tt)
mark_read (Some number_sign) false value now after e s h = absurd (h.1 hash value e tt)
