-- No list of tokens is two expressions.
use Rattle.std.proofs.Common.{◌≡◌, ℕ, suc, zero, ◌<◌, List, [], ◌∷◌, ◌++◌, refl, sym, ap, ◌∙◌, subst, arith, append_assoc, append-nil, ◌⊎◌, inl, inr, Bool, true, false, Option, Some, None, length, length-append}
use Rattle.vb_tree.specs.declared.expression.BinOp.TheVariants.{Is}
use Rattle.vb_tree.specs.declared.token.Token.{Token}
use Rattle.vb_tree.specs.Tree.{Exp}
use Rattle.vb_tree.specs.Expressions.{Symbol, leaf, naming, type_of_word, operator, access, opening, closing, comma, assign, Naming, Written, simple, implicit, creation, address, type_test, paren, unary, binary, member, index, WrittenType, single, dotted, type_spelling, IsType, WrittenArgs, no_args, arg, WrittenValue, given, Mark, by_val, number_sign, prefix_level, level_of, spelling, args_spelling, more_spelling, value_spelling, name_spelling, mark_spelling, IsGrouped, AreGrouped, tree_of, IsExpression}
use Rattle.vb_exprs.specs.Reading.{NoPartAfter, continues_of, Stands, Starts, Link, operator_link, member_link, index_link, extended, LinkStands, ArgsStand, ArgumentStands, EndsArgument}
use Rattle.vb_exprs.proofs.Spelled.{IsValueStart, ends_more, argument_assoc}
use Rattle.vb_exprs.proofs.Spines.{below_15, Climbs, begin, next, last, starts_simple, starts_implicit, starts_new, starts_address, starts_type_of, starts_open, starts_prefix, link_operator, link_member, link_index}
use Rattle.vb_exprs.proofs.Lists.{empty_args, argument_omitted, argument_given}

-- what is shorter than n symbols is one expression at most
abbrev Same : ℕ → Type 0
Same n = (bound : ℕ) (a b : Written) (ts x y : List Symbol) → length ts < n → Stands bound a ts x → Stands bound b ts y → (a ≡ b) × (x ≡ y)

no_part : (n : Naming) (w : Symbol) (ts : List Symbol) (x y : List Symbol) → ts ≡ type_spelling (single n) ++ x → ts ≡ type_spelling (dotted n w) ++ y → NoPartAfter (single n) x → IsType (dotted n w) → ⊥
no_part n w ts x y d e h k =
    let after : x ≡ access false ∷ w ∷ y = cc in
    let short = subst (NoPartAfter (single n)) after h in
    absurd (cc (short, k.1))

types_same : (a b : WrittenType) (ts x y : List Symbol) → ts ≡ type_spelling a ++ x → ts ≡ type_spelling b ++ y → IsType a → IsType b → NoPartAfter a x → NoPartAfter b y → (a ≡ b) × (x ≡ y)
types_same (single n) (single k) ts x y d e g h p q = (ap single (let f : n ≡ k = cc in f), cc)
types_same (dotted n v) (dotted k w) ts x y d e g h p q =
    let first : n ≡ k = cc in
    let second : v ≡ w = cc in
    (ap (λ z. dotted z v) first ∙ ap (dotted k) second, cc)
types_same (single n) (dotted k w) ts x y d e g h p q =
    let same : n ≡ k = cc in
    absurd (no_part n w ts x y d (subst (λ z. ts ≡ type_spelling (dotted z w) ++ y) (sym same) e) p (subst (λ z. IsType (dotted z w)) (sym same) h))
types_same (dotted n v) (single k) ts x y d e g h p q =
    let same : k ≡ n = cc in
    absurd (no_part k v ts y x e (subst (λ z. ts ≡ type_spelling (dotted z v) ++ x) (sym same) d) q (subst (λ z. IsType (dotted z v)) (sym same) g))

start_same : (n : ℕ) → Same n → (a b : Written) (ts x y : List Symbol) → length ts < suc n → Starts a ts x → Starts b ts y → (a ≡ b) × (x ≡ y)
start_same n same (paren a) b ts x y low s t =
    let e : ts ≡ opening ∷ (spelling a ++ closing ∷ x) = s.spelled ∙ ap (λ z. opening ∷ z) (append_assoc (spelling a) (closing ∷ []) x) in
    let o = starts_open b (spelling a ++ closing ∷ x) y (subst (λ z. Starts b z y) e t) in
    let p = starts_open (paren a) (spelling a ++ closing ∷ x) x (subst (λ z. Starts (paren a) z x) e s) in
    let r = same 15 p.0 o.0 (spelling a ++ closing ∷ x) (closing ∷ x) (closing ∷ y) (omega (arith, ap length e, low)) p.2 o.2 in
    (p.1 ∙ ap paren r.0 ∙ sym o.1, cc (r.1))
start_same n same (unary p a) b ts x y low s t =
    let e = s.spelled in
    let o = starts_prefix b p (prefix_level p) (spelling a ++ x) y refl (subst (λ z. Starts b z y) e t) in
    let q = starts_prefix (unary p a) p (prefix_level p) (spelling a ++ x) x refl (subst (λ z. Starts (unary p a) z x) e s) in
    let r = same (prefix_level p) q.0 o.0 (spelling a ++ x) x y (omega (arith, ap length e, low)) q.2 o.2 in
    (q.1 ∙ ap (unary p) r.0 ∙ sym o.1, r.1)
start_same n same (simple a) b ts x y low s t =
    let o = starts_simple b a x y (subst (λ z. Starts b z y) s.spelled t) in
    (sym o.0, o.1)
start_same n same (implicit c k) b ts x y low s t =
    let o = starts_implicit b c (k ∷ x) y (subst (λ z. Starts b z y) s.spelled t) in
    let same : k ≡ o.0 = cc (o.2) in
    (ap (implicit c) same ∙ sym o.1, cc (o.2))
start_same n same (creation w ty) b ts x y low s t =
    let e = s.spelled in
    let o = starts_new b w (type_spelling ty ++ x) y (subst (λ z. Starts b z y) e t) in
    let p = starts_new (creation w ty) w (type_spelling ty ++ x) x (subst (λ z. Starts (creation w ty) z x) e s) in
    let r = types_same p.0 o.0 (type_spelling ty ++ x) x y p.2 o.2 p.3 o.3 p.4 o.4 in
    (p.1 ∙ ap (creation w) r.0 ∙ sym o.1, r.1)
start_same n same (address w k) b ts x y low s t =
    let o = starts_address b w (leaf (naming k) ∷ x) y (subst (λ z. Starts b z y) s.spelled t) in
    let same : k ≡ o.0 = cc (o.2) in
    (ap (address w) same ∙ sym o.1, cc (o.2))
start_same n same (type_test w a is ty) b ts x y low s t =
    let rest = (spelling a ++ operator Is is ∷ type_spelling ty) ++ x in
    let e : ts ≡ type_of_word w ∷ rest = s.spelled in
    let o = starts_type_of b w rest y (subst (λ z. Starts b z y) e t) in
    let p = starts_type_of (type_test w a is ty) w rest x (subst (λ z. Starts (type_test w a is ty) z x) e s) in
    let r = same 1 p.operand o.operand rest (operator Is p.is ∷ (type_spelling p.ty ++ x)) (operator Is o.is ∷ (type_spelling o.ty ++ y)) (omega (arith, ap length e, low)) p.stands o.stands in
    let words : p.is ≡ o.is = cc (r.1) in
    let behind : type_spelling p.ty ++ x ≡ type_spelling o.ty ++ y = cc (r.1) in
    let k = types_same p.ty o.ty (type_spelling p.ty ++ x) x y refl behind p.fits o.fits p.no_part o.no_part in
    (p.whole ∙ ap (λ z. type_test w z p.is p.ty) r.0 ∙ ap (λ z. type_test w o.operand z p.ty) words ∙ ap (type_test w o.operand o.is) k.0 ∙ sym o.whole, k.1)
start_same n same (binary op w l r) b ts x y low s t = absurd s.first
start_same n same (member u c m) b ts x y low s t = absurd s.first
start_same n same (index u args) b ts x y low s t = absurd s.first

-- a value begins as no name and no mark
no_name : (mark : Option Mark) (vs ts : List Symbol) (n : Naming) → IsValueStart vs → leaf (naming n) ∷ assign ∷ ts ≡ mark_spelling mark ++ vs → ⊥
no_name (Some (by_val w)) vs ts n s e = absurd (cc)
no_name (Some number_sign) vs ts n s e = absurd (cc)
no_name None vs ts n s e = subst IsValueStart (sym e) s

names_same : (name name' : Option Naming) (mark mark' : Option Mark) (vs ws ts : List Symbol) → ts ≡ name_spelling name ++ (mark_spelling mark ++ vs) → ts ≡ name_spelling name' ++ (mark_spelling mark' ++ ws) → IsValueStart vs → IsValueStart ws → (name ≡ name') × (mark_spelling mark ++ vs ≡ mark_spelling mark' ++ ws)
names_same None None mark mark' vs ws ts d e s t = (refl, sym d ∙ e)
names_same (Some n) (Some k) mark mark' vs ws ts d e s t = (cc (d, e), cc (d, e))
names_same (Some n) None mark mark' vs ws ts d e s t = absurd (no_name mark' ws (mark_spelling mark ++ vs) n t (sym d ∙ e))
names_same None (Some n) mark mark' vs ws ts d e s t = absurd (no_name mark vs (mark_spelling mark' ++ ws) n s (sym e ∙ d))

marks_same : (mark mark' : Option Mark) (vs ws : List Symbol) → mark_spelling mark ++ vs ≡ mark_spelling mark' ++ ws → IsValueStart vs → IsValueStart ws → (mark ≡ mark') × (vs ≡ ws)
marks_same (Some (by_val v)) (Some (by_val w)) vs ws e s t = (ap (λ z. Some (by_val z)) (let f : v ≡ w = cc in f), cc)
marks_same (Some number_sign) (Some number_sign) vs ws e s t = (refl, cc)
marks_same (Some (by_val v)) (Some number_sign) vs ws e s t = absurd (cc)
marks_same (Some number_sign) (Some (by_val w)) vs ws e s t = absurd (cc)
marks_same None None vs ws e s t = (refl, e)
marks_same (Some (by_val v)) None vs ws e s t = absurd (subst IsValueStart (sym e) t)
marks_same (Some number_sign) None vs ws e s t = absurd (subst IsValueStart (sym e) t)
marks_same None (Some (by_val w)) vs ws e s t = absurd (subst IsValueStart e s)
marks_same None (Some number_sign) vs ws e s t = absurd (subst IsValueStart e s)

-- one argument and what follows it
argument_same : (n : ℕ) → Same n → (name name' : Option Naming) (mark mark' : Option Mark) (v w : WrittenValue) (ts x y : List Symbol) → length ts < n → ArgumentStands name mark v ts x → ArgumentStands name' mark' w ts y → (name ≡ name') × (mark ≡ mark') × (v ≡ w) × (x ≡ y)
argument_same n same name name' mark mark' v w ts x y low s t = go (ends_or_not ts)
  where
    ends_or_not : (ts : List Symbol) → (EndsArgument ts) ⊎ (EndsArgument ts → ⊥)
    ends_or_not (comma ∷ ts) = inl tt
    ends_or_not (closing ∷ ts) = inl tt
    ends_or_not [] = inr (λ e. e)
    ends_or_not (_ ∷ ts) = inr (λ e. e)

    go : (EndsArgument ts) ⊎ (EndsArgument ts → ⊥) → (name ≡ name') × (mark ≡ mark') × (v ≡ w) × (x ≡ y)
    go (inl e) =
        let a = argument_omitted name mark v ts x s e in
        let b = argument_omitted name' mark' w ts y t e in
        (a.0 ∙ sym b.0, a.1 ∙ sym b.1, a.2 ∙ sym b.2, sym a.3 ∙ b.3)
    go (inr e) =
        let a = argument_given name mark v ts x s e in
        let b = argument_given name' mark' w ts y t e in
        let names = names_same name name' mark mark' (spelling a.tree ++ x) (spelling b.tree ++ y) ts a.spelled b.spelled a.start b.start in
        let marks = marks_same mark mark' (spelling a.tree ++ x) (spelling b.tree ++ y) names.1 a.start b.start in
        let shorter : length (spelling a.tree ++ x) < n = omega (arith, low, ap length a.spelled, length-append (name_spelling name) (mark_spelling mark ++ (spelling a.tree ++ x)), length-append (mark_spelling mark) (spelling a.tree ++ x)) in
        let r = same 15 a.tree b.tree (spelling a.tree ++ x) x y shorter a.stands (subst (λ z. Stands 15 b.tree z y) (sym marks.1) b.stands) in
        (names.0, marks.0, a.is ∙ ap given r.0 ∙ sym b.is, r.1)

more_same : (n : ℕ) → Same n → (args args' : WrittenArgs) (x y : List Symbol) → AreGrouped args → AreGrouped args' → length (more_spelling args ++ closing ∷ x) < n → more_spelling args ++ closing ∷ x ≡ more_spelling args' ++ closing ∷ y → (args ≡ args') × (x ≡ y)
more_same n same no_args no_args x y g h low e = (refl, cc)
more_same n same no_args (arg name mark value rest) x y g h low e = absurd (cc)
more_same n same (arg name mark value rest) no_args x y g h low e = absurd (cc)
more_same n same (arg name mark value rest) (arg name' mark' value' rest') x y g h low e =
    let ts = name_spelling name ++ (mark_spelling mark ++ (value_spelling value ++ (more_spelling rest ++ closing ∷ x))) in
    let left = argument_assoc name mark (value_spelling value) (more_spelling rest) (closing ∷ x) in
    let right = argument_assoc name' mark' (value_spelling value') (more_spelling rest') (closing ∷ y) in
    let inner : (name_spelling name ++ (mark_spelling mark ++ (value_spelling value ++ more_spelling rest))) ++ closing ∷ x ≡ (name_spelling name' ++ (mark_spelling mark' ++ (value_spelling value' ++ more_spelling rest'))) ++ closing ∷ y = cc in
    let short : length ts < n = omega (arith, low, ap length left) in
    let a = argument_same n same name name' mark mark' value value' ts (more_spelling rest ++ closing ∷ x) (more_spelling rest' ++ closing ∷ y) short
    (record { grouped = g.0; spelled = refl; ends = ends_more rest x })
    (record { grouped = h.0; spelled = sym left ∙ inner ∙ right; ends = ends_more rest' y }) in
    let lower : length (more_spelling rest ++ closing ∷ x) < n = omega (arith, short, length-append (name_spelling name) (mark_spelling mark ++ (value_spelling value ++ (more_spelling rest ++ closing ∷ x))), length-append (mark_spelling mark) (value_spelling value ++ (more_spelling rest ++ closing ∷ x)), length-append (value_spelling value) (more_spelling rest ++ closing ∷ x)) in
    let m = more_same n same rest rest' x y g.1 h.1 lower a.3 in
    (cc (a.0, a.1, a.2, m.0), m.1)

args_same : (n : ℕ) → Same n → (args args' : WrittenArgs) (ts x y : List Symbol) → length ts < n → ArgsStand args ts x → ArgsStand args' ts y → (args ≡ args') × (x ≡ y)
args_same n same no_args args' ts x y low s t =
    let e = empty_args args' ts x y t s.spelled in
    (sym e.0, e.1)
args_same n same (arg name mark value rest) no_args ts x y low s t =
    let e = empty_args (arg name mark value rest) ts y x s t.spelled in
    (e.0, sym e.1)
args_same n same (arg name mark value rest) (arg name' mark' value' rest') ts x y low s t =
    let left = argument_assoc name mark (value_spelling value) (more_spelling rest) (closing ∷ x) in
    let right = argument_assoc name' mark' (value_spelling value') (more_spelling rest') (closing ∷ y) in
    let a = argument_same n same name name' mark mark' value value' ts (more_spelling rest ++ closing ∷ x) (more_spelling rest' ++ closing ∷ y) low
    (record { grouped = s.grouped.0; spelled = s.spelled ∙ left; ends = ends_more rest x })
    (record { grouped = t.grouped.0; spelled = t.spelled ∙ right; ends = ends_more rest' y }) in
    let lower : length (more_spelling rest ++ closing ∷ x) < n = omega (arith, low, ap length (s.spelled ∙ left), length-append (name_spelling name) (mark_spelling mark ++ (value_spelling value ++ (more_spelling rest ++ closing ∷ x))), length-append (mark_spelling mark) (value_spelling value ++ (more_spelling rest ++ closing ∷ x)), length-append (value_spelling value) (more_spelling rest ++ closing ∷ x)) in
    let m = more_same n same rest rest' x y s.grouped.1 t.grouped.1 lower a.3 in
    (cc (a.0, a.1, a.2, m.0), m.1)

link_same : (n : ℕ) → Same n → (j k : Link) (ts x y : List Symbol) → length ts < suc n → LinkStands j ts x → LinkStands k ts y → (j ≡ k) × (x ≡ y)
link_same n same (operator_link op v r) k ts x y low s t =
    let o = link_operator k ts s.0 y op v t s.1 in
    let a = same (level_of op) r o.0 s.0 x y (omega (arith, low, ap length s.1)) s.2 o.2 in
    (ap (operator_link op v) a.0 ∙ sym o.1, a.1)
link_same n same (member_link a m) k ts x y low s t =
    let o = link_member k ts (m ∷ x) y a t s.0 in
    let word : m ≡ o.0 = cc (o.2) in
    (ap (member_link a) word ∙ sym o.1, cc (o.2))
link_same n same (index_link args) k ts x y low s t =
    let o = link_index k ts s.0 y t s.1 in
    let a = args_same n same args o.0 s.0 x y (omega (arith, low, ap length s.1)) s.2 o.2 in
    (ap index_link a.0 ∙ sym o.1, a.1)

link_shorter : (k : Link) (ts x : List Symbol) → LinkStands k ts x → length x < length ts
link_shorter (operator_link op v r) ts x s = omega (arith, ap length s.1, ap length s.2.spelled, length-append (spelling r) x)
link_shorter (member_link a m) ts x s = omega (arith, ap length s.0)
link_shorter (index_link args) ts x s = omega (arith, ap length s.1, ap length s.2.spelled, length-append (args_spelling args) (closing ∷ x))

climb_same : (m n : ℕ) → Same n → (bound : ℕ) (a b left : Written) (now x y : List Symbol) → length now < m → length now < suc n → Climbs bound a left now x → Climbs bound b left now y → (a ≡ b) × (x ≡ y)
climb_same zero n same bound a b left now x y less low s t = absurd (omega arith)
climb_same (suc m) n same bound a b left now x y less low s t = go (λ k rest. climb_same m n same bound a b (extended left k) rest x y) (continues_of bound now) refl
  where
    go : ((k : Link) (rest : List Symbol) → length rest < m → length rest < suc n → Climbs bound a (extended left k) rest x → Climbs bound b (extended left k) rest y → (a ≡ b) × (x ≡ y)) → (c : Bool) → continues_of bound now ≡ c → (a ≡ b) × (x ≡ y)
    go again true on =
        let p = next bound a left now x s on in
        let q = next bound b left now y t on in
        let k = link_same n same p.link q.link now p.beyond q.beyond low p.stands q.stands in
        let short = link_shorter p.link now p.beyond p.stands in
        let c : Climbs bound b (extended left p.link) q.beyond y = subst (λ z. Climbs bound b (extended left z) q.beyond y) (sym k.0) q.climbs in
        again p.link p.beyond (omega (arith, short, less)) (omega (arith, short, low)) p.climbs (subst (λ z. Climbs bound b (extended left p.link) z y) (sym k.1) c)
    go again false off =
        let p = last bound a left now x s off in
        let q = last bound b left now y t off in
        (sym p.0 ∙ q.0, sym p.1 ∙ q.1)

starts_shorter : (t : Written) (ts x : List Symbol) → Starts t ts x → length x < suc (length ts)
starts_shorter t ts x s = omega (arith, ap length s.spelled, length-append (spelling t) x)

pub same_trees : (n : ℕ) → Same n
same_trees zero bound a b ts x y low s t = absurd (omega arith)
same_trees (suc n) bound a b ts x y low s t =
    let p = begin bound a ts x s in
    let q = begin bound b ts y t in
    let f = start_same n (same_trees n) p.first q.first ts p.more q.more low p.starts q.starts in
    let short = starts_shorter p.first ts p.more p.starts in
    let c : Climbs bound b p.first q.more y = subst (λ z. Climbs bound b z q.more y) (sym f.0) q.climbs in
    climb_same (suc (suc n)) n (same_trees n) bound a b p.first p.more x y (omega (arith, short, low)) (omega (arith, short, low)) p.climbs (subst (λ z. Climbs bound b p.first z y) (sym f.1) c)

one_tree : (a b : Written) → IsGrouped a → IsGrouped b → spelling a ≡ spelling b → a ≡ b
one_tree a b g h e =
    (same_trees (suc (length (spelling a))) 15 a b (spelling a) [] [] (omega arith)
    (record { grouped = g; joined = below_15 a; spelled = sym (append-nil (spelling a)); closed = tt; stops = tt })
    (record { grouped = h; joined = below_15 b; spelled = e ∙ sym (append-nil (spelling b)); closed = tt; stops = tt })).0

pub one_expression : (tokens : List Token) (a b : Exp) → IsExpression tokens a → IsExpression tokens b → a ≡ b
one_expression tokens a b x y =
    sym x.tree ∙ ap tree_of (one_tree x.written y.written x.grouped y.grouped (sym x.spelled ∙ y.spelled)) ∙ y.tree
