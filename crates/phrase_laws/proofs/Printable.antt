-- What is written within a line is printable.
use Rattle.std.proofs.Common.{◌≡◌, ℕ, zero, suc, ◌+◌, ◌-◌, ◌/◌, ◌%◌, ◌<◌, ◌≤◌, ℤ, pos, negsuc, Bool, true, false, not, ◌&&◌, ◌||◌, ◌==◌, nat_lt, cond, if◌then◌else◌, List, [], ◌∷◌, ◌++◌, map, replicate, codes, refl, ap, ◌∙◌, arith, ⊎_elim, le-leb, decimal}
use Rattle.std.specs.Char.{encode_utf8}
use Rattle.std.specs.Fmt.{digit_glyph, digits, digits_onto}
use Rattle.std.specs.Int.Digits.{AllBelowBase, digits_of}
use Rattle.std.specs.List.{flat_map, list_all}
use Rattle.std.proofs.lemmas.Bool.{or_cases}
use Rattle.std.proofs.lemmas.Bool.Decides.{nat_tests}
use Rattle.std.proofs.lemmas.Int.Digits.{all_below_base_digits_of}
use Rattle.std.proofs.lemmas.List.Folds.{list_all-append}
use Rattle.up_base.specs.Names.{is_printable}
use Rattle.net_tree.specs.declared.expression.CastWord.{CastWord}
use Rattle.net_tree.specs.declared.expression.CastWord.TheVariants as word
use Rattle.net_tree.specs.declared.expression.NetBin.{NetBin}
use Rattle.net_tree.specs.declared.expression.NetBin.TheVariants as op
use Rattle.net_tree.specs.declared.expression.NetUn.{NetUn}
use Rattle.net_tree.specs.declared.expression.NetUn.TheVariants as un
use Rattle.net_tree.specs.declared.line.NetLabel.TheVariants.{Word, Number}
use Rattle.net_tree.specs.Types as ty
use Rattle.net_tree.specs.Types.{TypeName}
use Rattle.net_tree.specs.Tree as tree
use Rattle.net_tree.specs.Tree.{Exp, Exps, Literal, binary, boolean, call_of, cast, ctype, dot, integer, lit, long, me, new_array, new_object, next_exp, no_exps, nothing, paren, path, short, str, type_of, unary, with_dot}
use Rattle.net_tree.specs.Spelling.{is_bracketed, is_identifier, is_library_path, is_path, is_same_path, is_word_part, name_text, path_text, separated}
use Rattle.net_tree.specs.Literals.{amount_text, bit_pattern, fraction_text, hexadecimal, is_writable_literal, literal_text, number_text, places_text, quoted_unit, whole_text}
use Rattle.net_tree.specs.Expressions.{are_writable_bounds, are_writable_exps, arguments_text, cast_text, exp_text, exp_texts, is_named, is_no_bound, is_path_exp, is_writable_exp, is_writable_type, operator_text, rank_text, type_text, unary_text}
use Rattle.net_tree.proofs.TypeDepths.{element_can}
use Rattle.net_exprs.specs.Laws.{ArgumentsStayWithinLine, ExpressionsStayWithinLine, LabelsStayWithinLine, NamesStayWithinLine, TypesStayWithinLine, stays_within_line}
use Rattle.net_exprs.proofs.Words.{both_true, by_test, is_word, never}
use Rattle.phrase_laws.proofs.LiteralsRead.{one_byte}

-- ---- pieces

pub both_stay : (s t : List ℕ) → stays_within_line s ≡ true → stays_within_line t ≡ true → stays_within_line (s ++ t) ≡ true
both_stay s t h k = list_all-append is_printable s t ∙ ap (λ b. b && stays_within_line t) h ∙ k

either_stays : (b : Bool) (s t : List ℕ) → stays_within_line s ≡ true → stays_within_line t ≡ true → stays_within_line (if b then s else t) ≡ true
either_stays true s t h k = h
either_stays false s t h k = k

separated_stays : (s : List ℕ) (texts : List (List ℕ)) → stays_within_line s ≡ true → list_all stays_within_line texts ≡ true → stays_within_line (separated s texts) ≡ true
separated_stays s [] h k = refl
separated_stays s (t ∷ []) h k = (both_true (stays_within_line t) true k).0
separated_stays s (t ∷ u ∷ ts) h k =
    let parts = both_true (stays_within_line t) (list_all stays_within_line (u ∷ ts)) k in
    both_stay (t ++ s) (separated s (u ∷ ts)) (both_stay t s parts.0 h) (separated_stays s (u ∷ ts) h parts.1)

-- ---- names

word_part_stays : (c : ℕ) → is_word_part c ≡ true → is_printable c ≡ true
word_part_stays c h = grind (arith, nat_tests)

word_stays : (w : List ℕ) → list_all is_word_part w ≡ true → stays_within_line w ≡ true
word_stays [] h = refl
word_stays (c ∷ w) h = let parts = both_true (is_word_part c) (list_all is_word_part w) h in rw (word_part_stays c parts.0) (word_stays w parts.1)

pub name_stays : NamesStayWithinLine
name_stays n h =
    let word = word_stays n (is_word n h) in
    either_stays (is_bracketed n) (codes "[" ++ n ++ codes "]") n (both_stay (codes "[" ++ n) (codes "]") word refl) word

names_stay : (names : List (List ℕ)) → list_all is_identifier names ≡ true → list_all stays_within_line names ≡ true
names_stay [] h = refl
names_stay (n ∷ names) h = let parts = both_true (is_identifier n) (list_all is_identifier names) h in rw (word_stays n (is_word n parts.0)) (names_stay names parts.1)

texts_stay : (names : List (List ℕ)) → list_all is_identifier names ≡ true → list_all stays_within_line (map name_text names) ≡ true
texts_stay [] h = refl
texts_stay (n ∷ names) h = let parts = both_true (is_identifier n) (list_all is_identifier names) h in rw (name_stays n parts.0) (texts_stay names parts.1)

pub path_stays : (names : List (List ℕ)) → is_path names ≡ true → stays_within_line (path_text names) ≡ true
path_stays [] h = never h
path_stays (n ∷ names) h =
    let all = (both_true (list_all is_identifier (n ∷ names)) (not (is_same_path (n ∷ names) (codes "System" ∷ codes "Array" ∷ []))) h).0 in
    by_test (is_library_path (n ∷ names)) (λ b. stays_within_line (separated (codes ".") (if b then n ∷ names else map name_text (n ∷ names))) ≡ true)
    (λ b. separated_stays (codes ".") (n ∷ names) refl (names_stay (n ∷ names) all)) (λ b. separated_stays (codes ".") (map name_text (n ∷ names)) refl (texts_stay (n ∷ names) all))

-- ---- numbers

digit_stays : (x : ℕ) → x < 10 → is_printable (48 + x) ≡ true
digit_stays x h = rw (le-leb 32 (48 + x) (omega arith), le-leb (48 + x) 126 (omega arith)) refl

glyph_stays : (upper : Bool) (d : ℕ) → d < 16 → is_printable (digit_glyph upper d) ≡ true
glyph_stays upper d h = by (nat_lt d 10) upper
  where
    within : (c : ℕ) → 32 ≤ c → c ≤ 126 → is_printable c ≡ true
    within c low high = rw (le-leb 32 c low, le-leb c 126 high) refl

    by : (a b : Bool) → is_printable (cond a (48 + d) (cond b (55 + d) (87 + d))) ≡ true
    by true b = within (48 + d) (omega arith) (omega arith)
    by false true = within (55 + d) (omega arith) (omega arith)
    by false false = within (87 + d) (omega arith) (omega arith)

digits_stay : (k n : ℕ) (acc : List ℕ) → stays_within_line acc ≡ true → stays_within_line (digits_onto k 10 false n acc) ≡ true
digits_stay zero n acc h = h
digits_stay (suc k) n acc h =
    let more : stays_within_line (digit_glyph false (n % 10) ∷ acc) ≡ true = ap (λ b. b && stays_within_line acc) (glyph_stays false (n % 10) (omega arith)) ∙ h in
    either_stays (n / 10 == 0) (digit_glyph false (n % 10) ∷ acc) (digits_onto k 10 false (n / 10) (digit_glyph false (n % 10) ∷ acc)) more
    (digits_stay k (n / 10) (digit_glyph false (n % 10) ∷ acc) more)

pub decimal_stays : (n : ℕ) → stays_within_line (decimal n) ≡ true
unfolding digits
decimal_stays n = digits_stay 64 n [] refl

glyphs_stay : (ds : List ℕ) → AllBelowBase 16 ds → stays_within_line (map (digit_glyph true) ds) ≡ true
glyphs_stay [] h = refl
glyphs_stay (d ∷ ds) h = ap (λ b. b && stays_within_line (map (digit_glyph true) ds)) (glyph_stays true d h.0) ∙ glyphs_stay ds h.1

hexadecimal_stays : (n : ℕ) → stays_within_line (hexadecimal n) ≡ true
hexadecimal_stays n = either_stays (n == 0) (codes "0") (map (digit_glyph true) (digits_of 16 n)) refl (glyphs_stay (digits_of 16 n) (all_below_base_digits_of 16 n (omega arith)))

number_stays : (z : ℤ) → stays_within_line (number_text z) ≡ true
number_stays (pos n) = decimal_stays n
number_stays (negsuc n) = decimal_stays (suc n)

whole_stays : (places : ℕ) (h : Bool) (z : ℤ) → stays_within_line (whole_text places h z) ≡ true
whole_stays places true z = hexadecimal_stays (bit_pattern places z)
whole_stays places false z = number_stays z

places_stay : (r : ℕ) → r < 10000 → stays_within_line (places_text r) ≡ true
places_stay r small =
    either_stays (r % 10 == 0) _ _
    (either_stays (r % 100 == 0) _ _
    (either_stays (r % 1000 == 0) _ _ (rw a refl) (rw (a, b) refl))
    (rw (a, b, c) refl))
    (rw (a, b, c, d) refl)
  where
    a : is_printable (48 + r / 1000) ≡ true
    a = digit_stays (r / 1000) (omega arith)

    b : is_printable (48 + r / 100 % 10) ≡ true
    b = digit_stays (r / 100 % 10) (omega arith)

    c : is_printable (48 + r / 10 % 10) ≡ true
    c = digit_stays (r / 10 % 10) (omega arith)

    d : is_printable (48 + r % 10) ≡ true
    d = digit_stays (r % 10) (omega arith)

amount_stays : (n : ℕ) → stays_within_line (amount_text n) ≡ true
amount_stays n =
    both_stay (decimal (n / 10000)) (fraction_text (n % 10000)) (decimal_stays (n / 10000))
    (either_stays (n % 10000 == 0) [] (codes "." ++ places_text (n % 10000)) refl (places_stay (n % 10000) (omega arith)))

-- ---- texts

unit_stays : (u : ℕ) → is_printable u ≡ true → stays_within_line (quoted_unit u) ≡ true
unit_stays u h = either_stays (u == 34) (codes "\"\"") (encode_utf8 u) refl (ap stays_within_line (one_byte u h) ∙ ap (λ b. b && true) h)

units_stay : (units : List ℕ) → list_all is_printable units ≡ true → stays_within_line (flat_map quoted_unit units) ≡ true
units_stay [] h = refl
units_stay (u ∷ units) h =
    let parts = both_true (is_printable u) (list_all is_printable units) h in
    both_stay (quoted_unit u) (flat_map quoted_unit units) (unit_stays u parts.0) (units_stay units parts.1)

pub literal_stays : (l : Literal) → is_writable_literal l ≡ true → stays_within_line (literal_text l) ≡ true
literal_stays (boolean true) h = refl
literal_stays (boolean false) h = refl
literal_stays (short z x) h = both_stay (whole_text 16 x z) (codes "S") (whole_stays 16 x z) refl
literal_stays (integer z true) h = both_stay (whole_text 32 true z) (codes "I") (whole_stays 32 true z) refl
literal_stays (integer z false) h = both_stay (whole_text 32 false z) [] (whole_stays 32 false z) refl
literal_stays (long z) h = both_stay (number_text z) (codes "L") (number_stays z) refl
literal_stays (tree.decimal (pos n)) h = both_stay (amount_text n) (codes "D") (amount_stays n) refl
literal_stays (tree.decimal (negsuc n)) h = never h
literal_stays (str units) h = both_stay (codes "\"" ++ flat_map quoted_unit units) (codes "\"") (units_stay units h) refl

-- ---- labels and types

pub label_stays : LabelsStayWithinLine
label_stays (Word name) h = name_stays name h
label_stays (Number n) h = decimal_stays n

commas_stay : (n : ℕ) → stays_within_line (replicate n 44) ≡ true
commas_stay zero = refl
commas_stay (suc n) = commas_stay n

rank_stays : (rank : ℕ) → stays_within_line (rank_text rank) ≡ true
rank_stays rank = both_stay (codes "(" ++ replicate (rank - 1) 44) (codes ")") (commas_stay (rank - 1)) refl

pub type_stays : TypesStayWithinLine
type_stays ty.boolean h = refl
type_stays ty.byte h = refl
type_stays ty.short h = refl
type_stays ty.integer h = refl
type_stays ty.long h = refl
type_stays ty.decimal h = refl
type_stays ty.str h = refl
type_stays ty.object h = refl
type_stays ty.system_array h = refl
type_stays (ty.named names) h = path_stays names h
type_stays (ty.array_of element rank) h =
    both_stay (type_text element) (rank_text rank) (type_stays element (element_can element rank h).0) (rank_stays rank)

-- ---- expressions

cast_stays : (w : CastWord) → stays_within_line (cast_text w) ≡ true
cast_stays word.CBool = refl
cast_stays word.CByte = refl
cast_stays word.CShort = refl
cast_stays word.CInt = refl
cast_stays word.CLng = refl
cast_stays word.CDec = refl
cast_stays word.CStr = refl
cast_stays word.CObj = refl

unary_stays : (o : NetUn) → stays_within_line (unary_text o) ≡ true
unary_stays un.Neg = refl
unary_stays un.Not = refl

operator_stays : (o : NetBin) → stays_within_line (operator_text o) ≡ true
operator_stays op.Add = refl
operator_stays op.Sub = refl
operator_stays op.Mul = refl
operator_stays op.IntDiv = refl
operator_stays op.Mod = refl
operator_stays op.Concat = refl
operator_stays op.Equal = refl
operator_stays op.NotEqual = refl
operator_stays op.Less = refl
operator_stays op.Greater = refl
operator_stays op.LessEqual = refl
operator_stays op.GreaterEqual = refl
operator_stays op.And = refl
operator_stays op.Or = refl
operator_stays op.Xor = refl
operator_stays op.Is = refl

pub listed_stay : (es : Exps) → list_all stays_within_line (exp_texts es) ≡ true → stays_within_line (arguments_text es) ≡ true
listed_stay es h = both_stay (codes "(" ++ separated (codes ", ") (exp_texts es)) (codes ")") (separated_stays (codes ", ") (exp_texts es) refl h) refl

bound_stays : (e : Exp) → is_no_bound e ≡ true → stays_within_line (exp_text e) ≡ true
unfolding digits
bound_stays (lit (integer (negsuc zero) false)) h = refl
bound_stays _ h = never h

mutual
  stays : (e : Exp) → is_writable_exp e ≡ true → stays_within_line (exp_text e) ≡ true
  stays (lit l) h = literal_stays l h
  stays nothing h = refl
  stays me h = refl
  stays (path names) h = path_stays names h
  stays (with_dot name) h = name_stays name h
  stays (dot a name) h =
      let outer = both_true (not (is_path_exp a) && is_writable_exp a) (is_identifier name) h in
      let parts = both_true (not (is_path_exp a)) (is_writable_exp a) outer.0 in
      both_stay (exp_text a ++ codes ".") (name_text name) (both_stay (exp_text a) (codes ".") (stays a parts.1) refl) (name_stays name outer.1)
  stays (call_of a args) h =
      let parts = both_true (is_writable_exp a) (are_writable_exps args) h in
      both_stay (exp_text a) (arguments_text args) (stays a parts.0) (listed_stay args (all_stay args parts.1))
  stays (cast w a) h =
      both_stay (cast_text w ++ codes "(" ++ exp_text a) (codes ")") (both_stay (cast_text w ++ codes "(") (exp_text a) (both_stay (cast_text w) (codes "(") (cast_stays w) refl) (stays a h)) refl
  stays (ctype a t) h =
      let parts = both_true (is_writable_exp a) (is_writable_type t) h in
      both_stay (codes "CType(" ++ exp_text a ++ codes ", " ++ type_text t) (codes ")")
      (both_stay (codes "CType(" ++ exp_text a ++ codes ", ") (type_text t) (both_stay (codes "CType(" ++ exp_text a) (codes ", ") (stays a parts.0) refl) (type_stays t parts.1)) refl
  stays (unary o a) h =
      both_stay (codes "(" ++ unary_text o ++ exp_text a) (codes ")") (both_stay (codes "(" ++ unary_text o) (exp_text a) (unary_stays o) (stays a h)) refl
  stays (binary o a b) h =
      let parts = both_true (is_writable_exp a) (is_writable_exp b) h in
      both_stay (codes "(" ++ exp_text a ++ operator_text o ++ exp_text b) (codes ")")
      (both_stay (codes "(" ++ exp_text a ++ operator_text o) (exp_text b) (both_stay (codes "(" ++ exp_text a) (operator_text o) (stays a parts.0) (operator_stays o)) (stays b parts.1)) refl
  stays (paren a) h = both_stay (codes "(" ++ exp_text a) (codes ")") (stays a h) refl
  stays (new_object t args) h =
      let outer = both_true (is_named t && is_writable_type t) (are_writable_exps args) h in
      let parts = both_true (is_named t) (is_writable_type t) outer.0 in
      both_stay (codes "New " ++ type_text t) (arguments_text args) (type_stays t parts.1) (listed_stay args (all_stay args outer.1))
  stays (new_array t bounds) h =
      let parts = both_true (is_writable_type t) (are_writable_bounds bounds) h in
      both_stay (codes "New " ++ type_text t ++ arguments_text bounds) (codes " {}")
      (both_stay (codes "New " ++ type_text t) (arguments_text bounds) (type_stays t parts.0) (listed_stay bounds (bounds_stay bounds parts.1))) refl
  stays (type_of a t) h =
      let parts = both_true (is_writable_exp a) (is_writable_type t) h in
      both_stay (codes "(TypeOf " ++ exp_text a ++ codes " Is " ++ type_text t) (codes ")")
      (both_stay (codes "(TypeOf " ++ exp_text a ++ codes " Is ") (type_text t) (both_stay (codes "(TypeOf " ++ exp_text a) (codes " Is ") (stays a parts.0) refl) (type_stays t parts.1)) refl

  all_stay : (es : Exps) → are_writable_exps es ≡ true → list_all stays_within_line (exp_texts es) ≡ true
  all_stay no_exps h = refl
  all_stay (next_exp e more) h =
      let parts = both_true (is_writable_exp e) (are_writable_exps more) h in
      ap (λ b. b && list_all stays_within_line (exp_texts more)) (stays e parts.0) ∙ all_stay more parts.1

  bounds_stay : (es : Exps) → are_writable_bounds es ≡ true → list_all stays_within_line (exp_texts es) ≡ true
  bounds_stay no_exps h = refl
  bounds_stay (next_exp e more) h =
      let parts = both_true (is_no_bound e || is_writable_exp e) (are_writable_bounds more) h in
      ap (λ b. b && list_all stays_within_line (exp_texts more)) (⊎_elim (bound_stays e) (λ w. stays e w) (or_cases (is_no_bound e) (is_writable_exp e) parts.0)) ∙ bounds_stay more parts.1

pub expression_stays : ExpressionsStayWithinLine
expression_stays e h = stays e h

pub arguments_stay : ArgumentsStayWithinLine
arguments_stay es h = listed_stay es (all_stay es h)
