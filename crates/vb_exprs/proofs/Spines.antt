-- An expression as its first operand and the links that take it into the whole, from the inside.
use Rattle.std.proofs.Common.{◌≡◌, ℕ, ◌+◌, ◌<◌, ◌≤◌, List, [], ◌∷◌, ◌++◌, refl, sym, ap, ◌∙◌, subst, arith, append_assoc, append-nil, Option, Bool, true, false}
use Rattle.std.proofs.lemmas.Bool.Decides.{nat_tests}
use Rattle.vb_tree.specs.declared.expression.BinOp.{BinOp}
use Rattle.vb_tree.specs.declared.expression.BinOp.TheVariants.{Pow, Is}
use Rattle.vb_tree.specs.Tree.{Exp}
use Rattle.vb_tree.specs.Expressions.{Symbol, leaf, literal, naming, constant, self, new_word, type_of_word, address_of_word, operator, access, opening, closing, Naming, Leaf, IsWord, Written, simple, implicit, creation, address, type_test, paren, unary, binary, member, index, WrittenType, WrittenArgs, Prefix, negation, complement, prefix_symbol, prefix_level, level_of, spelling, type_spelling, args_spelling, join_level, end_level, IsGrouped, IsType, tree_of, depth_of}
use Rattle.vb_exprs.specs.declared.fail.ExprFail.{ExprFail}
use Rattle.vb_exprs.specs.declared.fail.ExprFail.TheVariants as fail
use Rattle.vb_exprs.specs.Reading.{NoPartNext, NoPartAfter, NoTighter, continues_of, Stands, Starts, IsFirst, Link, operator_link, member_link, index_link, extended, link_spelling, LinkStands, ArgsStand, Fails}

abbrev pub wrap : Written → List Link → Written
wrap t [] = t
wrap t (k ∷ ks) = wrap (extended t k) ks

abbrev pub links_spelling : List Link → List Symbol
links_spelling [] = []
links_spelling (k ∷ ks) = link_spelling k ++ links_spelling ks

-- one link

grouped_extended : (t : Written) (k : Link) → IsGrouped (extended t k) → IsGrouped t
grouped_extended t (operator_link op w r) g = g.0
grouped_extended t (member_link b n) g = g.0
grouped_extended t (index_link args) g = g.0

pub depth_extended : (t : Written) (k : Link) → depth_of (tree_of t) + 1 ≤ depth_of (tree_of (extended t k))
depth_extended t (operator_link op w r) = omega arith
depth_extended t (member_link false n) = omega arith
depth_extended t (member_link true n) = omega arith
depth_extended t (index_link args) = omega arith

pub join_end : (t : Written) → join_level t ≤ end_level t
join_end (binary op w l r) = omega arith
join_end _ = omega arith

join_extended : (t : Written) (k : Link) → IsGrouped (extended t k) → join_level t ≤ join_level (extended t k)
join_extended t (operator_link op w r) g = omega (arith, join_end t, g.2)
join_extended t (member_link b n) g = omega (arith, join_end t, g.1)
join_extended t (index_link args) g = omega (arith, join_end t, g.1)

spelling_extended : (t : Written) (k : Link) → spelling (extended t k) ≡ spelling t ++ link_spelling k
spelling_extended t (operator_link op w r) = refl
spelling_extended t (member_link b n) = refl
spelling_extended t (index_link args) = refl

closed_extended : (t : Written) (k : Link) (more : List Symbol) → IsGrouped (extended t k) → NoTighter (end_level t) (link_spelling k ++ more)
closed_extended t (operator_link op w r) more g = g.2
closed_extended t (member_link b n) more g = g.1
closed_extended t (index_link args) more g = g.1

NoTighter-≤ : (m n : ℕ) (ts : List Symbol) → m ≤ n → NoTighter n ts → NoTighter m ts
NoTighter-≤ m n [] h k = tt
NoTighter-≤ m n (operator op w ∷ ts) h k = omega arith
NoTighter-≤ m n (access b ∷ ts) h k = omega arith
NoTighter-≤ m n (opening ∷ ts) h k = omega arith
NoTighter-≤ m n (_ ∷ ts) h k = tt

-- the right side of a link, where the link ends
link_stands : (t : Written) (k : Link) (now rest : List Symbol) → IsGrouped (extended t k) → NoTighter (end_level (extended t k)) rest → now ≡ link_spelling k ++ rest → LinkStands k now rest
link_stands t (operator_link op w r) now rest g c e = (
  spelling r ++ rest,
  e,
  record {
    grouped = g.1;
    joined = g.3;
    spelled = refl;
    closed = NoTighter-≤ (end_level r) (end_level (binary op w t r)) rest (omega arith) c;
    stops = NoTighter-≤ (level_of op) (end_level (binary op w t r)) rest (omega arith) c;
  },
)
link_stands t (member_link b n) now rest g c e = (e, g.2)
link_stands t (index_link args) now rest g c e =
    ((args_spelling args ++ closing ∷ []) ++ rest, e, record { grouped = g.2; not_lone = g.3; spelled = append_assoc (args_spelling args) (closing ∷ []) rest })

-- many links

grouped_wrap : (t : Written) (ks : List Link) → IsGrouped (wrap t ks) → IsGrouped t
grouped_wrap t [] g = g
grouped_wrap t (k ∷ ks) g = grouped_extended t k (grouped_wrap (extended t k) ks g)

depth_wrap : (t : Written) (ks : List Link) → depth_of (tree_of t) ≤ depth_of (tree_of (wrap t ks))
depth_wrap t [] = omega arith
depth_wrap t (k ∷ ks) = omega (arith, depth_wrap (extended t k) ks, depth_extended t k)

join_wrap : (t : Written) (ks : List Link) → IsGrouped (wrap t ks) → join_level t ≤ join_level (wrap t ks)
join_wrap t [] g = omega arith
join_wrap t (k ∷ ks) g = omega (arith, join_wrap (extended t k) ks g, join_extended t k (grouped_wrap (extended t k) ks g))

spelling_wrap : (t : Written) (ks : List Link) → spelling (wrap t ks) ≡ spelling t ++ links_spelling ks
spelling_wrap t [] = sym (append-nil (spelling t))
spelling_wrap t (k ∷ ks) =
    spelling_wrap (extended t k) ks ∙ ap (λ x. x ++ links_spelling ks) (spelling_extended t k) ∙ append_assoc (spelling t) (link_spelling k) (links_spelling ks)

wrap_push : (t : Written) (ks : List Link) (k : Link) → wrap t (ks ++ k ∷ []) ≡ extended (wrap t ks) k
wrap_push t [] k = refl
wrap_push t (x ∷ ks) k = wrap_push (extended t x) ks k

closed_wrap : (t : Written) (ks : List Link) (end : List Symbol) → IsGrouped (wrap t ks) → NoTighter (end_level (wrap t ks)) end → NoTighter (end_level t) (links_spelling ks ++ end)
closed_wrap t [] end g h = h
closed_wrap t (k ∷ ks) end g h =
    rw append_assoc (closed_extended t k (links_spelling ks ++ end) (grouped_wrap (extended t k) ks g))

no_part_end : (bound : ℕ) (t : Written) (end : List Symbol) → 0 < bound → NoTighter bound end → NoPartNext t end
no_part_end bound t (access b ∷ end) low h = absurd (omega arith)
no_part_end bound t [] low h = tt
no_part_end bound t (_ ∷ end) low h = tt

no_part_wrap : (bound : ℕ) (t : Written) (ks : List Link) (end : List Symbol) → 0 < bound → NoTighter bound end → IsGrouped (wrap t ks) → NoPartNext t (links_spelling ks ++ end)
no_part_wrap bound t [] end low h g = no_part_end bound t end low h
no_part_wrap bound t (operator_link op w r ∷ ks) end low h g = tt
no_part_wrap bound t (member_link b n ∷ ks) end low h g = (grouped_wrap (member t b n) ks g).3
no_part_wrap bound t (index_link args ∷ ks) end low h g = tt

pub level_bounds : (op : BinOp) → (1 ≤ level_of op) × (level_of op < 15)
level_bounds Pow = (omega arith, omega arith)
level_bounds _ = (omega arith, omega arith)

pub prefix_bounds : (p : Prefix) → 1 ≤ prefix_level p
prefix_bounds negation = omega arith
prefix_bounds (complement w) = omega arith

pub below_15 : (t : Written) → join_level t < 15
below_15 (binary op w l r) = (level_bounds op).1
below_15 _ = omega arith

prefix_injective : (p q : Prefix) → prefix_symbol p ≡ prefix_symbol q → p ≡ q
prefix_injective negation negation e = refl
prefix_injective (complement v) (complement w) e = ap complement (let f : v ≡ w = cc in f)
prefix_injective negation (complement w) e = absurd (cc)
prefix_injective (complement v) negation e = absurd (cc)

pub record Spine (t : Written) : Type 0 where
  pub first : Written
  pub links : List Link
  pub is_first : IsFirst first
  pub whole : t ≡ wrap first links

pushed : (t : Written) (k : Link) → Spine t → Spine (extended t k)
pushed t k s = record {
  first = s.first;
  links = s.links ++ k ∷ [];
  is_first = s.is_first;
  whole = ap (λ x. extended x k) s.whole ∙ sym (wrap_push s.first s.links k);
}

pub spine : (t : Written) → Spine t
spine (binary op w l r) = pushed l (operator_link op w r) (spine l)
spine (member t b n) = pushed t (member_link b n) (spine t)
spine (index t args) = pushed t (index_link args) (spine t)
spine (simple a) = record { first = simple a; links = []; is_first = tt; whole = refl }
spine (implicit b n) = record { first = implicit b n; links = []; is_first = tt; whole = refl }
spine (creation w ty) = record { first = creation w ty; links = []; is_first = tt; whole = refl }
spine (address w n) = record { first = address w n; links = []; is_first = tt; whole = refl }
spine (type_test w e is ty) = record { first = type_test w e is ty; links = []; is_first = tt; whole = refl }
spine (paren t) = record { first = paren t; links = []; is_first = tt; whole = refl }
spine (unary p t) = record { first = unary p t; links = []; is_first = tt; whole = refl }

-- from is where the reading of t has come to
pub record Climbs (bound : ℕ) (t from : Written) (now end : List Symbol) : Type 0 where
  pub links : List Link
  pub whole : t ≡ wrap from links
  pub spelled : now ≡ links_spelling links ++ end
  pub grouped : IsGrouped t
  pub joined : join_level t < bound
  pub closed : NoTighter (end_level t) end
  pub stops : NoTighter bound end

-- left is the tree of where it has come to
pub record Climbed (bound : ℕ) (t : Written) (left : Exp) (now end : List Symbol) : Type 0 where
  pub from : Written
  pub is : tree_of from ≡ left
  pub climbs : Climbs bound t from now end

pub record Begun (bound : ℕ) (t : Written) (now end : List Symbol) : Type 0 where
  pub first : Written
  pub more : List Symbol
  pub starts : Starts first now more
  pub climbs : Climbs bound t first more end
  pub depth : depth_of (tree_of first) ≤ depth_of (tree_of t)

pub begin : (bound : ℕ) (t : Written) (now end : List Symbol) → Stands bound t now end → Begun bound t now end
begin bound t now end h =
    let s = spine t in
    let g : IsGrouped (wrap s.first s.links) = subst IsGrouped s.whole h.grouped in
    let c : NoTighter (end_level (wrap s.first s.links)) end = subst (λ x. NoTighter (end_level x) end) s.whole h.closed in
    record {
      first = s.first;
      more = links_spelling s.links ++ end;
      starts = record {
        grouped = grouped_wrap s.first s.links g;
        first = s.is_first;
        spelled = h.spelled ∙ ap (λ x. spelling x ++ end) s.whole ∙ ap (λ x. x ++ end) (spelling_wrap s.first s.links) ∙ append_assoc (spelling s.first) (links_spelling s.links) end;
        closed = closed_wrap s.first s.links end g c;
        no_part = no_part_wrap bound s.first s.links end (omega (arith, h.joined)) h.stops g;
      };
      climbs = record { links = s.links; whole = s.whole; spelled = refl; grouped = h.grouped; joined = h.joined; closed = h.closed; stops = h.stops };
      depth = omega (arith, depth_wrap s.first s.links, ap (λ x. depth_of (tree_of x)) s.whole);
    }

pub record Next (bound : ℕ) (t from : Written) (now end : List Symbol) : Type 0 where
  pub link : Link
  pub beyond : List Symbol
  pub stands : LinkStands link now beyond
  pub climbs : Climbs bound t (extended from link) beyond end
  pub depth : depth_of (tree_of (extended from link)) ≤ depth_of (tree_of t)

stops_there : (bound : ℕ) (ts : List Symbol) → 0 < bound → NoTighter bound ts → continues_of bound ts ≡ true → ⊥
stops_there bound [] b h e = absurd (cc)
stops_there bound (operator op w ∷ ts) b h e = absurd (grind (arith, nat_tests))
stops_there bound (access a ∷ ts) b h e = absurd (omega arith)
stops_there bound (opening ∷ ts) b h e = absurd (omega arith)
stops_there bound (leaf (literal l) ∷ ts) b h e = absurd (cc)
stops_there bound (leaf (naming n) ∷ ts) b h e = absurd (cc)
stops_there bound (leaf (constant n s) ∷ ts) b h e = absurd (cc)
stops_there bound (leaf (self n) ∷ ts) b h e = absurd (cc)
stops_there bound (_ ∷ ts) b h e = absurd (cc)

-- something comes next that goes on
pub next : (bound : ℕ) (t from : Written) (now end : List Symbol) → Climbs bound t from now end → continues_of bound now ≡ true → Next bound t from now end
next bound t from now end h on = go h.links h.whole h.spelled
  where
    go : (links : List Link) → t ≡ wrap from links → now ≡ links_spelling links ++ end → Next bound t from now end
    go [] e s = absurd (stops_there bound now (omega (arith, h.joined)) (subst (NoTighter bound) (sym s) h.stops) on)
    go (k ∷ ks) e s =
        let g : IsGrouped (wrap (extended from k) ks) = subst IsGrouped e h.grouped in
        let c : NoTighter (end_level (wrap (extended from k) ks)) end = subst (λ x. NoTighter (end_level x) end) e h.closed in
        let ends = closed_wrap (extended from k) ks end g c in
        record {
          link = k;
          beyond = links_spelling ks ++ end;
          stands = link_stands from k now (links_spelling ks ++ end) (grouped_wrap (extended from k) ks g) ends (s ∙ append_assoc (link_spelling k) (links_spelling ks) end);
          climbs = record { links = ks; whole = e; spelled = refl; grouped = h.grouped; joined = h.joined; closed = h.closed; stops = h.stops };
          depth = omega (arith, depth_wrap (extended from k) ks, ap (λ x. depth_of (tree_of x)) e);
        }

goes_on : (bound : ℕ) (t : Written) (k : Link) (more : List Symbol) → join_level (extended t k) < bound → continues_of bound (link_spelling k ++ more) ≡ false → ⊥
goes_on bound t (operator_link op w r) more h e = absurd (grind (arith, nat_tests))
goes_on bound t (member_link b n) more h e = absurd (cc)
goes_on bound t (index_link args) more h e = absurd (cc)

-- nothing does
pub last : (bound : ℕ) (t from : Written) (now end : List Symbol) → Climbs bound t from now end → continues_of bound now ≡ false → (from ≡ t) × (now ≡ end)
last bound t from now end h off = go h.links h.whole h.spelled
  where
    go : (links : List Link) → t ≡ wrap from links → now ≡ links_spelling links ++ end → (from ≡ t) × (now ≡ end)
    go [] e s = (sym e, s)
    go (k ∷ ks) e s =
        let g : IsGrouped (wrap (extended from k) ks) = subst IsGrouped e h.grouped in
        let low : join_level (extended from k) < bound = omega (arith, join_wrap (extended from k) ks g, ap join_level e, h.joined) in
        absurd (goes_on bound from k (links_spelling ks ++ end) low (sym (ap (continues_of bound) (s ∙ append_assoc (link_spelling k) (links_spelling ks) end)) ∙ off))

-- an error at a part
pub fails_up : (e : ExprFail) (small room part whole : ℕ) → room ≤ small + 1 → part + 1 ≤ whole → Fails small e part → Fails room e whole
fails_up fail.NotExpr small room part whole h d f = f
fails_up fail.TooDeep small room part whole h d f = omega arith
fails_up fail.Mem small room part whole h d f = tt

-- an error at a part that is no less deep by itself
pub fails_same : (e : ExprFail) (room part whole : ℕ) → part ≤ whole → Fails room e part → Fails room e whole
fails_same fail.NotExpr room part whole d f = f
fails_same fail.TooDeep room part whole d f = omega arith
fails_same fail.Mem room part whole d f = tt

-- the first symbol says with which operand an expression begins

part_after : (w : List ℕ) (ty : WrittenType) (rest : List Symbol) → NoPartNext (creation w ty) rest → NoPartAfter ty rest
part_after w ty [] h = tt
part_after w ty (access b ∷ []) h = tt
part_after w ty (access b ∷ part ∷ more) h = h
part_after w ty (_ ∷ more) h = tt

part_behind : (w : List ℕ) (e : Written) (is : Option (List ℕ)) (ty : WrittenType) (rest : List Symbol) → NoPartNext (type_test w e is ty) rest → NoPartAfter ty rest
part_behind w e is ty [] h = tt
part_behind w e is ty (access b ∷ []) h = tt
part_behind w e is ty (access b ∷ part ∷ more) h = h
part_behind w e is ty (_ ∷ more) h = tt

pub starts_open : (t : Written) (ts rest : List Symbol) → Starts t (opening ∷ ts) rest → (e : Written) × (t ≡ paren e) × Stands 15 e ts (closing ∷ rest)
starts_open (simple a) ts rest h = absurd (cc (h.spelled))
starts_open (implicit b n) ts rest h = absurd (cc (h.spelled))
starts_open (creation w ty) ts rest h = absurd (cc (h.spelled))
starts_open (address w n) ts rest h = absurd (cc (h.spelled))
starts_open (type_test w e is ty) ts rest h = absurd (cc (h.spelled))
starts_open (paren e) ts rest h =
    (e, refl, record { grouped = h.grouped; joined = below_15 e; spelled = cc (append_assoc (spelling e) (closing ∷ []) rest, h.spelled); closed = tt; stops = tt })
starts_open (unary negation e) ts rest h = absurd (cc (h.spelled))
starts_open (unary (complement w) e) ts rest h = absurd (cc (h.spelled))
starts_open (binary op w l r) ts rest h = absurd (h.first)
starts_open (member e b n) ts rest h = absurd (h.first)
starts_open (index e args) ts rest h = absurd (h.first)

pub starts_simple : (t : Written) (a : Leaf) (ts rest : List Symbol) → Starts t (leaf a ∷ ts) rest → (t ≡ simple a) × (ts ≡ rest)
starts_simple (simple k) a ts rest h =
    (ap simple (let f : k ≡ a = cc (h.spelled) in f), cc (h.spelled))
starts_simple (implicit b n) a ts rest h = absurd (cc (h.spelled))
starts_simple (creation w ty) a ts rest h = absurd (cc (h.spelled))
starts_simple (address w n) a ts rest h = absurd (cc (h.spelled))
starts_simple (type_test w e is ty) a ts rest h = absurd (cc (h.spelled))
starts_simple (paren e) a ts rest h = absurd (cc (h.spelled))
starts_simple (unary negation e) a ts rest h = absurd (cc (h.spelled))
starts_simple (unary (complement w) e) a ts rest h = absurd (cc (h.spelled))
starts_simple (binary op w l r) a ts rest h = absurd (h.first)
starts_simple (member e b n) a ts rest h = absurd (h.first)
starts_simple (index e args) a ts rest h = absurd (h.first)

pub starts_implicit : (t : Written) (b : Bool) (ts rest : List Symbol) → Starts t (access b ∷ ts) rest → (n : Symbol) × (t ≡ implicit b n) × (ts ≡ n ∷ rest) × IsWord n
starts_implicit (simple a) b ts rest h = absurd (cc (h.spelled))
starts_implicit (implicit c n) b ts rest h =
    (n, ap (λ x. implicit x n) (let f : c ≡ b = cc (h.spelled) in f), cc (h.spelled), h.grouped)
starts_implicit (creation w ty) b ts rest h = absurd (cc (h.spelled))
starts_implicit (address w n) b ts rest h = absurd (cc (h.spelled))
starts_implicit (type_test w e is ty) b ts rest h = absurd (cc (h.spelled))
starts_implicit (paren e) b ts rest h = absurd (cc (h.spelled))
starts_implicit (unary negation e) b ts rest h = absurd (cc (h.spelled))
starts_implicit (unary (complement w) e) b ts rest h = absurd (cc (h.spelled))
starts_implicit (binary op w l r) b ts rest h = absurd (h.first)
starts_implicit (member e c n) b ts rest h = absurd (h.first)
starts_implicit (index e args) b ts rest h = absurd (h.first)

pub starts_new : (t : Written) (w : List ℕ) (ts rest : List Symbol) → Starts t (new_word w ∷ ts) rest → (ty : WrittenType) × (t ≡ creation w ty) × (ts ≡ type_spelling ty ++ rest) × IsType ty × NoPartAfter ty rest
starts_new (simple a) w ts rest h = absurd (cc (h.spelled))
starts_new (implicit b n) w ts rest h = absurd (cc (h.spelled))
starts_new (creation v ty) w ts rest h =
    (ty, ap (λ x. creation x ty) (let f : v ≡ w = cc (h.spelled) in f), cc (h.spelled), h.grouped, part_after v ty rest h.no_part)
starts_new (address v n) w ts rest h = absurd (cc (h.spelled))
starts_new (type_test v e is ty) w ts rest h = absurd (cc (h.spelled))
starts_new (paren e) w ts rest h = absurd (cc (h.spelled))
starts_new (unary negation e) w ts rest h = absurd (cc (h.spelled))
starts_new (unary (complement v) e) w ts rest h = absurd (cc (h.spelled))
starts_new (binary op v l r) w ts rest h = absurd (h.first)
starts_new (member e b n) w ts rest h = absurd (h.first)
starts_new (index e args) w ts rest h = absurd (h.first)

pub starts_address : (t : Written) (w : List ℕ) (ts rest : List Symbol) → Starts t (address_of_word w ∷ ts) rest → (n : Naming) × (t ≡ address w n) × (ts ≡ leaf (naming n) ∷ rest)
starts_address (simple a) w ts rest h = absurd (cc (h.spelled))
starts_address (implicit b n) w ts rest h = absurd (cc (h.spelled))
starts_address (creation v ty) w ts rest h = absurd (cc (h.spelled))
starts_address (address v n) w ts rest h =
    (n, ap (λ x. address x n) (let f : v ≡ w = cc (h.spelled) in f), cc (h.spelled))
starts_address (type_test v e is ty) w ts rest h = absurd (cc (h.spelled))
starts_address (paren e) w ts rest h = absurd (cc (h.spelled))
starts_address (unary negation e) w ts rest h = absurd (cc (h.spelled))
starts_address (unary (complement v) e) w ts rest h = absurd (cc (h.spelled))
starts_address (binary op v l r) w ts rest h = absurd (h.first)
starts_address (member e b n) w ts rest h = absurd (h.first)
starts_address (index e args) w ts rest h = absurd (h.first)

pub record TypeTested (w : List ℕ) (t : Written) (ts rest : List Symbol) : Type 0 where
  pub operand : Written
  pub is : Option (List ℕ)
  pub ty : WrittenType
  pub whole : t ≡ type_test w operand is ty
  pub stands : Stands 1 operand ts (operator Is is ∷ (type_spelling ty ++ rest))
  pub fits : IsType ty
  pub no_part : NoPartAfter ty rest

pub starts_type_of : (t : Written) (w : List ℕ) (ts rest : List Symbol) → Starts t (type_of_word w ∷ ts) rest → TypeTested w t ts rest
starts_type_of (simple a) w ts rest h = absurd (cc (h.spelled))
starts_type_of (implicit b n) w ts rest h = absurd (cc (h.spelled))
starts_type_of (creation v ty) w ts rest h = absurd (cc (h.spelled))
starts_type_of (address v n) w ts rest h = absurd (cc (h.spelled))
starts_type_of (type_test v e is ty) w ts rest h =
    record {
      operand = e;
      is = is;
      ty = ty;
      whole = ap (λ x. type_test x e is ty) (let f : v ≡ w = cc (h.spelled) in f);
      stands = record {
        grouped = h.grouped.0;
        joined = omega (arith, join_end e, h.grouped.1);
        spelled = cc (append_assoc (spelling e) (operator Is is ∷ type_spelling ty) rest, h.spelled);
        closed = omega (arith, h.grouped.1);
        stops = omega arith;
      };
      fits = h.grouped.2;
      no_part = part_behind v e is ty rest h.no_part;
    }
starts_type_of (paren e) w ts rest h = absurd (cc (h.spelled))
starts_type_of (unary negation e) w ts rest h = absurd (cc (h.spelled))
starts_type_of (unary (complement v) e) w ts rest h = absurd (cc (h.spelled))
starts_type_of (binary op v l r) w ts rest h = absurd (h.first)
starts_type_of (member e b n) w ts rest h = absurd (h.first)
starts_type_of (index e args) w ts rest h = absurd (h.first)

pub starts_prefix : (t : Written) (p : Prefix) (n : ℕ) (ts rest : List Symbol) → n ≡ prefix_level p → Starts t (prefix_symbol p ∷ ts) rest → (e : Written) × (t ≡ unary p e) × Stands n e ts rest
starts_prefix (unary q e) p n ts rest at h =
    let same : q ≡ p = prefix_injective q p (cc (h.spelled)) in
    let stands : Stands (prefix_level q) e ts rest = record {
      grouped = h.grouped.0;
      joined = h.grouped.1;
      spelled = cc (h.spelled);
      closed = NoTighter-≤ (end_level e) (end_level (unary q e)) rest (omega arith) h.closed;
      stops = NoTighter-≤ (prefix_level q) (end_level (unary q e)) rest (omega arith) h.closed;
    } in
    (e, ap (λ x. unary x e) same, subst (λ l. Stands l e ts rest) (ap prefix_level same ∙ sym at) stands)
starts_prefix (simple a) negation n ts rest at h = absurd (cc (h.spelled))
starts_prefix (simple a) (complement v) n ts rest at h = absurd (cc (h.spelled))
starts_prefix (implicit b m) negation n ts rest at h = absurd (cc (h.spelled))
starts_prefix (implicit b m) (complement v) n ts rest at h = absurd (cc (h.spelled))
starts_prefix (creation w ty) negation n ts rest at h = absurd (cc (h.spelled))
starts_prefix (creation w ty) (complement v) n ts rest at h = absurd (cc (h.spelled))
starts_prefix (address w m) negation n ts rest at h = absurd (cc (h.spelled))
starts_prefix (address w m) (complement v) n ts rest at h = absurd (cc (h.spelled))
starts_prefix (type_test w e is ty) negation n ts rest at h = absurd (cc (h.spelled))
starts_prefix (type_test w e is ty) (complement v) n ts rest at h = absurd (cc (h.spelled))
starts_prefix (paren e) negation n ts rest at h = absurd (cc (h.spelled))
starts_prefix (paren e) (complement v) n ts rest at h = absurd (cc (h.spelled))
starts_prefix (binary op w l r) p n ts rest at h = absurd (h.first)
starts_prefix (member e b m) p n ts rest at h = absurd (h.first)
starts_prefix (index e args) p n ts rest at h = absurd (h.first)

-- the symbol of a link says which link it is

pub link_operator : (k : Link) (now after rest : List Symbol) (op : BinOp) (w : Option (List ℕ)) → LinkStands k now rest → now ≡ operator op w ∷ after → (r : Written) × (k ≡ operator_link op w r) × Stands (level_of op) r after rest
link_operator (operator_link o v r) now after rest op w h e =
    let same : o ≡ op = cc (h.1, e) in
    let words : v ≡ w = cc (h.1, e) in
    let there : h.0 ≡ after = cc (h.1, e) in
    let stands = subst (λ x. Stands (level_of x) r h.0 rest) same h.2 in
    (r, ap (λ x. operator_link x v r) same ∙ ap (λ x. operator_link op x r) words, subst (λ x. Stands (level_of op) r x rest) there stands)
link_operator (member_link b n) now after rest op w h e = absurd (cc (h.0, e))
link_operator (index_link args) now after rest op w h e = absurd (cc (h.1, e))

pub link_member : (k : Link) (now after rest : List Symbol) (b : Bool) → LinkStands k now rest → now ≡ access b ∷ after → (n : Symbol) × (k ≡ member_link b n) × (after ≡ n ∷ rest) × IsWord n
link_member (operator_link o v r) now after rest b h e = absurd (cc (h.1, e))
link_member (member_link c n) now after rest b h e = (n, ap (λ x. member_link x n) (let f : c ≡ b = cc (h.0, e) in f), cc (h.0, e), h.1)
link_member (index_link args) now after rest b h e = absurd (cc (h.1, e))

pub link_index : (k : Link) (now after rest : List Symbol) → LinkStands k now rest → now ≡ opening ∷ after → (args : WrittenArgs) × (k ≡ index_link args) × ArgsStand args after rest
link_index (operator_link o v r) now after rest h e = absurd (cc (h.1, e))
link_index (member_link b n) now after rest h e = absurd (cc (h.0, e))
link_index (index_link args) now after rest h e =
    let there : h.0 ≡ after = cc (h.1, e) in
    (args, refl, subst (λ x. ArgsStand args x rest) there h.2)
