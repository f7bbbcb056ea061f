-- A line of a procedure leads from its text up to that line to its text behind it.
use Rattle.std.proofs.Common.{◌≡◌, ℕ, suc, ◌+◌, Bool, true, ◌&&◌, List, [], ◌∷◌, ◌++◌, length, refl, sym, ap, ◌∙◌, arith, append_assoc, append-nil, Option, Some, None}
use Rattle.std.specs.Prelude.{IfSome}
use Rattle.std.specs.List.{flat_map, list_all}
use Rattle.std.proofs.lemmas.List.{flat_map_more}
use Rattle.net_tree.specs.declared.block.NetBlock.{NetBlock}
use Rattle.net_tree.specs.declared.block.NetRole.{NetRole}
use Rattle.net_tree.specs.declared.block.NetRole.TheVariants.{Plain, Opens, Parts}
use Rattle.net_tree.specs.declared.block.NetRole.TheVariants as role
use Rattle.net_tree.specs.declared.declaration.NetClose.{NetClose}
use Rattle.net_tree.specs.Blocks.{depth_at, depth_behind, fits_in, nests, nests_in, open_behind, role_of}
use Rattle.net_tree.specs.Declarations.{close_text, closes, dim_text, head_text, is_writable_dim, is_writable_head}
use Rattle.net_tree.specs.Lines.{is_writable_line, line_text, lines_text}
use Rattle.net_tree.specs.Spelling.{at_depth}
use Rattle.net_tree.specs.Tree.{Dim, Head, Line}
use Rattle.net_exprs.proofs.Words.{both_true, never}
use Rattle.net_reader.specs.DeclarationReader.{close_at, dim_at}
use Rattle.net_reader.specs.FileLines.{text_of_line}
use Rattle.net_reader.specs.Fits.{fits_dim, fits_head, fits_line}
use Rattle.net_reader.specs.LineReader.{line_at}
use Rattle.net_reader.specs.ModuleReader.{Body, closed, closed_by, going, grown, grown_by, grown_by_line, has_no_blocks, has_no_lines, headed, line_taken, with_dim, with_line}
use Rattle.net_reader.proofs.SoFar.{Closes, Goes, GrowsTo, IsBody, body_text}
use Rattle.net_reader.proofs.TakenLines.{depth_ends, taken_makes}
use Rattle.net_reader.proofs.Tests.{all_append, and_true}

-- ---- declarations

no_lines : (depth : ℕ) (lines : List Line) → has_no_lines lines ≡ true → lines_text depth lines ≡ []
no_lines depth [] h = refl
no_lines depth (l ∷ lines) h = never h

before_none : (a x none : List ℕ) → none ≡ [] → a ++ x ++ none ≡ a ++ none ++ x
before_none a x none h = ap (λ n. a ++ x ++ n) h ∙ append-nil (a ++ x) ∙ ap (λ b. b ++ x) (sym (append-nil a) ∙ ap (λ n. a ++ n) (sym h))

pub one_more : {A : Type 0} (test : A → Bool) (xs : List A) (x : A) → list_all test xs ≡ true → test x ≡ true → list_all test (xs ++ x ∷ []) ≡ true
one_more test xs x h k = all_append test xs (x ∷ []) h (and_true (test x) true k refl)

pub dim_goes : (depth : ℕ) (b : Body) (d : Dim) → IsBody b → has_no_lines b.tree.lines ≡ true → is_writable_dim d ≡ true → fits_dim d ≡ true →
    Goes depth b (at_depth (suc depth) (dim_text d)) (with_dim b d)
dim_goes depth b d is none h k = record {
  body = record {
    head = is.head;
    head_fits = is.head_fits;
    dims = one_more is_writable_dim b.tree.prologue d is.dims h;
    dims_fit = one_more fits_dim b.tree.prologue d is.dims_fit k;
    lines = is.lines;
    lines_fit = is.lines_fit;
    nest = is.nest;
    lay = is.lay;
  };
  text =
      let each = λ (d : Dim). at_depth (suc depth) (dim_text d) in
      let head = at_depth depth (head_text b.tree.head) in
      let lines = lines_text (suc depth) b.tree.lines in
      ap (λ front. front ++ lines) (sym (flat_map_more each head b.tree.prologue d))
      ∙ before_none (head ++ flat_map each b.tree.prologue) (each d) lines (no_lines (suc depth) b.tree.lines none);
  head = refl;
  ends = depth_ends (suc depth) (dim_text d);
}

-- ---- lines

behind_depth : (r : NetRole) (depth : ℕ) (blocks : List NetBlock) → fits_in r blocks ≡ true → depth_behind r (depth + length blocks) ≡ depth + length (open_behind r blocks)
behind_depth Plain depth blocks h = refl
behind_depth (Opens kind) depth blocks h = omega arith
behind_depth (Parts kind) depth blocks h = refl
behind_depth (role.Closes kind) depth [] h = never h
behind_depth (role.Closes kind) depth (round ∷ outer) h = omega arith

line_nests : (l : Line) (blocks : List NetBlock) (more : List Line) → fits_in (role_of l) blocks ≡ true →
    nests_in blocks (l ∷ more) ≡ nests_in (open_behind (role_of l) blocks) more
line_nests l [] more h = ap (λ t. t && nests_in (open_behind (role_of l) []) more) h
line_nests l (round ∷ outer) more h = ap (λ t. t && nests_in (open_behind (role_of l) (round ∷ outer)) more) h

in_three : (a x b c whole : List ℕ) → whole ≡ a ++ (x ++ []) → b ≡ c → a ++ (x ++ b) ≡ whole ++ c
in_three a x b c whole h k =
    sym (append_assoc a x b) ∙ ap (λ b. a ++ x ++ b) k ∙ ap (λ front. front ++ c) (sym (h ∙ ap (λ x. a ++ x) (append-nil x)))

pub line_goes : (depth : ℕ) (b : Body) (l : Line) → IsBody b → is_writable_line l ≡ true → fits_line l ≡ true → fits_in (role_of l) b.blocks ≡ true →
    Goes depth b (at_depth (depth_at (role_of l) (suc depth + length b.blocks)) (line_text l)) (with_line b l)
line_goes depth b l is h k fits = record {
  body = record {
    head = is.head;
    head_fits = is.head_fits;
    dims = is.dims;
    dims_fit = is.dims_fit;
    lines = one_more is_writable_line b.tree.lines l is.lines h;
    lines_fit = one_more fits_line b.tree.lines l is.lines_fit k;
    nest = λ more. ap nests (append_assoc b.tree.lines (l ∷ []) more) ∙ is.nest (l ∷ more) ∙ line_nests l b.blocks more fits;
    lay = λ depth more. lays depth more;
  };
  text =
      let front = at_depth depth (head_text b.tree.head) ++ flat_map (λ (d : Dim). at_depth (suc depth) (dim_text d)) b.tree.prologue in
      ap (λ lines. front ++ lines) (is.lay (suc depth) (l ∷ []) ∙ ap (λ x. lines_text (suc depth) b.tree.lines ++ x) (append-nil (text (suc depth))))
      ∙ sym (append_assoc front (lines_text (suc depth) b.tree.lines) (text (suc depth)));
  head = refl;
  ends = depth_ends (depth_at (role_of l) (suc depth + length b.blocks)) (line_text l);
}
  where
    text : ℕ → List ℕ
    text depth = at_depth (depth_at (role_of l) (depth + length b.blocks)) (line_text l)

    lays : (depth : ℕ) (more : List Line) →
        lines_text depth (b.tree.lines ++ l ∷ [] ++ more) ≡ lines_text depth (b.tree.lines ++ l ∷ []) ++ lines_text (depth + length (open_behind (role_of l) b.blocks)) more
    lays depth more =
        let behind = depth_behind (role_of l) (depth + length b.blocks) in
        ap (lines_text depth) (append_assoc b.tree.lines (l ∷ []) more) ∙ is.lay depth (l ∷ more)
        ∙ in_three (lines_text depth b.tree.lines) (text depth) (lines_text behind more) (lines_text (depth + length (open_behind (role_of l) b.blocks)) more)
        (lines_text depth (b.tree.lines ++ l ∷ [])) (is.lay depth (l ∷ [])) (ap (λ d. lines_text d more) (behind_depth (role_of l) depth b.blocks fits))

-- ---- closing lines

all_closed : (blocks : List NetBlock) → has_no_blocks blocks ≡ true → nests_in blocks [] ≡ true
all_closed [] h = refl
all_closed (round ∷ outer) h = never h

pub close_closes : (depth : ℕ) (b : Body) (c : NetClose) → IsBody b → closes b.tree.head c ≡ true → has_no_blocks b.blocks ≡ true →
    Closes depth b (at_depth depth (close_text c)) (closed_by b c)
close_closes depth b c is h k =
    let nest : nests b.tree.lines ≡ true = ap nests (sym (append-nil b.tree.lines)) ∙ is.nest [] ∙ all_closed b.blocks k in
    record {
      writable =
          and_true (is_writable_head b.tree.head && closes b.tree.head c && list_all is_writable_dim b.tree.prologue && list_all is_writable_line b.tree.lines) (nests b.tree.lines)
          (and_true (is_writable_head b.tree.head && closes b.tree.head c && list_all is_writable_dim b.tree.prologue) (list_all is_writable_line b.tree.lines)
          (and_true (is_writable_head b.tree.head && closes b.tree.head c) (list_all is_writable_dim b.tree.prologue)
          (and_true (is_writable_head b.tree.head) (closes b.tree.head c) is.head h) is.dims) is.lines) nest;
      fits =
          and_true (fits_head b.tree.head && list_all fits_dim b.tree.prologue) (list_all fits_line b.tree.lines)
          (and_true (fits_head b.tree.head) (list_all fits_dim b.tree.prologue) is.head_fits is.dims_fit) is.lines_fit;
      text = refl;
      head = refl;
      ends = depth_ends depth (close_text c);
    }

-- ---- heads

pub head_is_body : (h : Head) → is_writable_head h ≡ true → fits_head h ≡ true → IsBody (headed h)
head_is_body h can fits = record {
  head = can;
  head_fits = fits;
  dims = refl;
  dims_fit = refl;
  lines = refl;
  lines_fit = refl;
  nest = λ more. refl;
  lay = λ depth more. ap (λ d. lines_text d more) (none_open depth);
}
  where
    none_open : (depth : ℕ) → depth ≡ depth + 0
    none_open depth = omega arith

pub head_alone : (depth : ℕ) (h : Head) → body_text depth (headed h) ≡ at_depth depth (head_text h)
head_alone depth h = append-nil (at_depth depth (head_text h) ++ []) ∙ append-nil (at_depth depth (head_text h))

-- ---- any line

line_grows : (depth : ℕ) (b : Body) (line : List ℕ) → IsBody b → IfSome (line_taken depth b line) (GrowsTo depth b line)
line_grows depth b line is =
    taken_makes _ _ (λ (l : Line). going (with_line b l)) (GrowsTo depth b)
    (λ l h. let both = both_true (is_writable_line l && fits_line l) (fits_in (role_of l) b.blocks) h in
    let can = both_true (is_writable_line l) (fits_line l) both.0 in
    line_goes depth b l is can.0 can.1 both.1)
    line (line_at (text_of_line line))

by_line_grows : (depth : ℕ) (b : Body) (found : Option Dim) (line : List ℕ) → IsBody b → IfSome (grown_by_line depth b found line) (GrowsTo depth b line)
by_line_grows depth b (Some d) line is =
    taken_makes (λ (d : Dim). has_no_lines b.tree.lines && is_writable_dim d && fits_dim d) (λ (d : Dim). at_depth (suc depth) (dim_text d)) (λ (d : Dim). going (with_dim b d)) (GrowsTo depth b)
    (λ d h. let both = both_true (has_no_lines b.tree.lines && is_writable_dim d) (fits_dim d) h in
    let can = both_true (has_no_lines b.tree.lines) (is_writable_dim d) both.0 in
    dim_goes depth b d is can.0 can.1 both.1)
    line (Some d)
by_line_grows depth b None line is = line_grows depth b line is

by_grows : (depth : ℕ) (b : Body) (found : Option NetClose) (line : List ℕ) → IsBody b → IfSome (grown_by depth b found line) (GrowsTo depth b line)
by_grows depth b (Some c) line is =
    taken_makes (λ (c : NetClose). closes b.tree.head c && has_no_blocks b.blocks) (λ (c : NetClose). at_depth depth (close_text c)) (λ (c : NetClose). closed (closed_by b c)) (GrowsTo depth b)
    (λ c h. let both = both_true (closes b.tree.head c) (has_no_blocks b.blocks) h in close_closes depth b c is both.0 both.1)
    line (Some c)
by_grows depth b None line is = by_line_grows depth b (dim_at (text_of_line line)) line is

pub body_grows : (depth : ℕ) (b : Body) (line : List ℕ) → IsBody b → IfSome (grown depth b line) (GrowsTo depth b line)
body_grows depth b line is = by_grows depth b (close_at (text_of_line line)) line is
