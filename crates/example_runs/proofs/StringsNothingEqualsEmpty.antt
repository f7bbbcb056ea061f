-- The program strings-nothing-equals-empty, what it puts out and how it ends.
use Rattle.std.proofs.Common.{◌≡◌, refl, ◌++◌, List, ℤ, pos, Bool, true, false, [], ◌∷◌, codes, Some, None}
use Rattle.vb_tree.specs.declared.declared.VarId.{VarId}
use Rattle.bound_tree.specs.Tree as bound
use Rattle.net_tree.specs.Tree as net
use Rattle.net_tree.specs.Types as net_types
use Rattle.vb_tree.specs.BoundTree as types
use Rattle.vb_tree.specs.Tree as vb
use Rattle.vb_tree.specs.declared.expression.BinOp.TheVariants as bin
use Rattle.net_tree.specs.declared.expression.CastWord.TheVariants as cast
use Rattle.net_tree.specs.declared.declaration.NetClose.TheVariants as close
use Rattle.vb_tree.specs.declared.declared.ProcKind.TheVariants as kind
use Rattle.vb_tree.specs.declared.bound.LibCall.TheVariants as lib
use Rattle.vb_tree.specs.declared.token.Literal6.TheVariants as literal
use Rattle.bound_tree.specs.declared.body.Mention.TheVariants as mention
use Rattle.bound_tree.specs.declared.declared.Named.TheVariants as named
use Rattle.net_tree.specs.declared.expression.NetBin.TheVariants as net_bin
use Rattle.net_tree.specs.declared.declaration.NetPassing.TheVariants as net_passing
use Rattle.net_tree.specs.declared.declaration.NetVisibility.TheVariants as net_visible
use Rattle.bound_tree.specs.declared.expression.Origin.TheVariants as origin
use Rattle.vb_tree.specs.declared.declared.Owner.TheVariants as owner
use Rattle.vb_tree.specs.declared.project.ProjectKind.TheVariants as project_kind
use Rattle.bound_tree.specs.declared.declared.Scope.TheVariants as scope
use Rattle.vb_tree.specs.declared.token.Suffix.TheVariants as suffix
use Rattle.vb_tree.specs.declared.value.Value6.TheVariants as value
use Rattle.vb_tree.specs.declared.form_parts.VarWord.TheVariants as var
use Rattle.vb_tree.specs.declared.form_parts.Visibility.TheVariants as visible
use Rattle.std.specs.Fmt.{digits}
use Rattle.example_runs.proofs.Said.{ended, line, ran, runnable_of}
use Rattle.vb6_run.specs.Runnables.{Runnable}

abbrev pub project : vb.Project
project = (record {
  file = (record {
    kind = project_kind.Exe;
    startup = (Some (3, (codes "Sub Main")));
    entries = ((record
        { line = 2; class = false; name = (codes "Main1"); file = (codes "Main1.bas") }) ∷ []);
    dropped = ([]);
  });
  modules = ((record {
    file = 1;
    name = (codes "Main1");
    class = false;
    members = (
        (vb.proc (record {
          place = (record { file = 1; line = 1 });
          text = (codes "Sub Main()");
          form = (vb.sub_head (record {
            visibility = None;
            name = (codes "Main");
            suffix = suffix.Absent;
            params = ([]);
          }));
        }) (vb.next_node
        (vb.line (record {
          place = (record { file = 1; line = 2 });
          text = (codes "Dim s As String, v As Variant");
          form = (vb.variables
              var.Dim ((record {
                name = (codes "s");
                suffix = suffix.Absent;
                bounds = None;
                auto = false;
                ty = (Some (vb.named (codes
                    "String")));
              }) ∷ (record {
                name = (codes "v");
                suffix = suffix.Absent;
                bounds = None;
                auto = false;
                ty = (Some (vb.named
                    (codes "Variant")));
              }) ∷ []));
        })) (vb.next_node
        (vb.line (record {
          place = (record { file = 1; line = 3 });
          text = (68 ∷ 101 ∷ 98 ∷ 117 ∷ 103 ∷ 46 ∷ 80 ∷ 114 ∷ 105
              ∷ 110 ∷ 116 ∷ 32 ∷ 115 ∷ 32 ∷ 61 ∷ 32 ∷ 34 ∷ 34 ∷ 59 ∷ 32 ∷ 76 ∷ 101 ∷ 110 ∷ 40 ∷ 115 ∷ 41 ∷ 59 ∷ 32 ∷ 34 ∷ 91 ∷ 34 ∷
              32 ∷ 38 ∷ 32 ∷ 115 ∷ 32 ∷ 38 ∷ 32 ∷ 34 ∷ 93 ∷ 34 ∷ []);
          form = (vb.debug_print ((vb.binary bin.Equal (vb.word (codes "s")
              suffix.Absent) (vb.lit (literal.Str []))) ∷ (vb.index (vb.word (codes "Len") suffix.Absent) (vb.next_arg None false (vb.given
              (vb.word (codes "s") suffix.Absent)) vb.no_args)) ∷ (vb.binary bin.Concat (vb.binary bin.Concat (vb.lit (literal.Str (codes
              "["))) (vb.word (codes "s") suffix.Absent)) (vb.lit (literal.Str (codes "]")))) ∷ []) false);
        })) (vb.next_node
        (vb.line (record {
          place = (record { file = 1; line = 4 });
          text = (codes "v = s");
          form = (vb.assign (vb.word (codes
              "v") suffix.Absent) (vb.word (codes "s") suffix.Absent));
        })) (vb.next_node
        (vb.line (record {
          place = (record { file = 1; line = 5 });
          text = (codes "Debug.Print IsEmpty(v)");
          form = (vb.debug_print
              ((vb.index (vb.word (codes "IsEmpty") suffix.Absent) (vb.next_arg None false (vb.given (vb.word (codes "v") suffix.Absent))
              vb.no_args)) ∷ []) false);
        })) (vb.next_node
        (vb.line (record {
          place = (record { file = 1; line = 6 });
          text = (codes "s = vbNullString");
          form = (vb.assign (vb.word
              (codes "s") suffix.Absent) (vb.word (codes "vbNullString") suffix.Absent));
        })) (vb.next_node
        (vb.line (record {
          place = (record { file = 1; line = 7 });
          text = (68 ∷ 101 ∷ 98 ∷ 117 ∷ 103 ∷ 46 ∷ 80 ∷ 114 ∷ 105
              ∷ 110 ∷ 116 ∷ 32 ∷ 115 ∷ 32 ∷ 61 ∷ 32 ∷ 34 ∷ 34 ∷ []);
          form = (vb.debug_print ((vb.binary bin.Equal (vb.word (codes "s")
              suffix.Absent) (vb.lit (literal.Str []))) ∷ []) false);
        })) vb.no_nodes)))))) (record {
          place = (record {
            file = 1;
            line
                = 8;
          });
          text = (codes "End Sub");
          form = vb.end_sub;
        })) ∷ []);
    comments = ([]);
  }) ∷ []);
})

abbrev pub declarations : bound.Declarations
declarations = (record {
  project = project;
  names = (
      (record { name = (codes "Main"); scope = (scope.Public 1); named = (named.Proc (record { 0 = 0 })) }) ∷
      (record { name = (codes "s"); scope = (scope.Local (record { 0 = 0 })); named = (named.Var (record { 0 = 0 })) }) ∷
      (record { name = (codes "v"); scope = (scope.Local (record { 0 = 0 })); named = (named.Var (record { 0 = 1 })) }) ∷ []);
  vars = (
      (record {
        name = (codes "s");
        place = (record { file = 1; line = 2 });
        statement = 1;
        owner = (owner.Local (record {
          0
              = 0;
        }));
        ty = types.str;
        named = types.str;
        qualified = false;
        lettered = None;
        bounds = ([]);
        auto = false;
        preset =
            None;
      }) ∷
      (record {
        name = (codes "v");
        place = (record { file = 1; line = 2 });
        statement = 1;
        owner = (owner.Local (record {
          0
              = 0;
        }));
        ty = types.variant;
        named = types.variant;
        qualified = false;
        lettered = None;
        bounds = ([]);
        auto = false;
        preset
            = None;
      }) ∷ []);
  consts = ([]);
  procs = (
      (record {
        name = (codes "Main");
        place = (record { file = 1; line = 1 });
        module_number = 1;
        kind = kind.Sub;
        visibility
            = visible.Public;
        params = ([]);
        result = types.nothing;
        answer = None;
        first = (record { 0 = 0 });
      }) ∷ []);
  types = ([]);
  enums = ([]);
  defaults = ([]);
})

abbrev pub body_0 : List bound.Line
body_0 = (
    (record {
      source = (record {
        place = (record { file = 1; line = 3 });
        text = (68 ∷ 101 ∷ 98 ∷ 117 ∷ 103 ∷ 46 ∷ 80 ∷ 114
            ∷ 105 ∷ 110 ∷ 116 ∷ 32 ∷ 115 ∷ 32 ∷ 61 ∷ 32 ∷ 34 ∷ 34 ∷ 59 ∷ 32 ∷ 76 ∷ 101 ∷ 110 ∷ 40 ∷ 115 ∷ 41 ∷ 59 ∷ 32 ∷ 34 ∷ 91 ∷
            34 ∷ 32 ∷ 38 ∷ 32 ∷ 115 ∷ 32 ∷ 38 ∷ 32 ∷ 34 ∷ 93 ∷ 34 ∷ []);
        form = (vb.debug_print ((vb.binary bin.Equal (vb.word (codes
            "s") suffix.Absent) (vb.lit (literal.Str []))) ∷ (vb.index (vb.word (codes "Len") suffix.Absent) (vb.next_arg None false
            (vb.given (vb.word (codes "s") suffix.Absent)) vb.no_args)) ∷ (vb.binary bin.Concat (vb.binary bin.Concat (vb.lit (literal.Str
            (codes "["))) (vb.word (codes "s") suffix.Absent)) (vb.lit (literal.Str (codes "]")))) ∷ []) false);
      });
      bindings = (record {
        exprs = ((bound.typed types.boolean (bound.binary bin.Equal (bound.typed types.str (bound.variable (record { 0 = 0 })
            false)) (bound.typed types.str (bound.constant (value.Str []) origin.Literal)))) ∷ (bound.typed types.long (bound.library
            lib.Len (bound.next_expr (bound.typed types.str (bound.variable (record { 0 = 0 }) false)) bound.no_exprs))) ∷ (bound.typed
            types.str (bound.binary bin.Concat (bound.typed types.str (bound.binary bin.Concat (bound.typed types.str (bound.constant
            (value.Str (codes "[")) origin.Literal)) (bound.typed types.str (bound.variable (record { 0 = 0 }) false)))) (bound.typed
            types.str (bound.constant (value.Str (codes "]")) origin.Literal)))) ∷ []);
        rules = (record { bits = 0 });
        mentions =
            ((mention.Var (record { 0 = 0 })) ∷ (mention.Var (record { 0 = 0 })) ∷ (mention.Var (record { 0 = 0 })) ∷ []);
      });
    }) ∷
    (record {
      source = (record {
        place = (record { file = 1; line = 4 });
        text = (codes "v = s");
        form = (vb.assign (vb.word
            (codes "v") suffix.Absent) (vb.word (codes "s") suffix.Absent));
      });
      bindings = (record {
        exprs = ((bound.typed types.variant
            (bound.variable (record { 0 = 1 }) false)) ∷ (bound.typed types.variant (bound.convert types.variant (bound.typed types.str
            (bound.variable (record { 0 = 0 }) false)))) ∷ []);
        rules = (record { bits = 0 });
        mentions = ((mention.Var (record {
          0 = 1;
        })) ∷ (mention.Var (record { 0 = 0 })) ∷ []);
      });
    }) ∷
    (record {
      source = (record {
        place = (record { file = 1; line = 5 });
        text = (codes "Debug.Print IsEmpty(v)");
        form =
            (vb.debug_print ((vb.index (vb.word (codes "IsEmpty") suffix.Absent) (vb.next_arg None false (vb.given (vb.word (codes
            "v") suffix.Absent)) vb.no_args)) ∷ []) false);
      });
      bindings = (record {
        exprs = ((bound.typed types.boolean (bound.library
            lib.IsEmpty (bound.next_expr (bound.typed types.variant (bound.variable (record { 0 = 1 }) false)) bound.no_exprs))) ∷
            []);
        rules = (record { bits = 0 });
        mentions = ((mention.Var (record { 0 = 1 })) ∷ []);
      });
    }) ∷
    (record {
      source = (record {
        place = (record { file = 1; line = 6 });
        text = (codes "s = vbNullString");
        form = (vb.assign
            (vb.word (codes "s") suffix.Absent) (vb.word (codes "vbNullString") suffix.Absent));
      });
      bindings = (record {
        exprs = ((bound.typed
            types.str (bound.variable (record { 0 = 0 }) false)) ∷ (bound.typed types.str (bound.constant (value.Str []) origin.Literal))
            ∷ []);
        rules = (record { bits = 0 });
        mentions = ((mention.Var (record { 0 = 0 })) ∷ []);
      });
    }) ∷
    (record {
      source = (record {
        place = (record { file = 1; line = 7 });
        text = (68 ∷ 101 ∷ 98 ∷ 117 ∷ 103 ∷ 46 ∷ 80 ∷ 114
            ∷ 105 ∷ 110 ∷ 116 ∷ 32 ∷ 115 ∷ 32 ∷ 61 ∷ 32 ∷ 34 ∷ 34 ∷ []);
        form = (vb.debug_print ((vb.binary bin.Equal (vb.word (codes
            "s") suffix.Absent) (vb.lit (literal.Str []))) ∷ []) false);
      });
      bindings = (record {
        exprs = ((bound.typed types.boolean
            (bound.binary bin.Equal (bound.typed types.str (bound.variable (record { 0 = 0 }) false)) (bound.typed types.str (bound.constant
            (value.Str []) origin.Literal)))) ∷ []);
        rules = (record { bits = 0 });
        mentions = ((mention.Var (record { 0 = 0 })) ∷
            []);
      });
    }) ∷ [])

abbrev pub bodies : List (List bound.Line)
bodies = body_0 ∷ []

abbrev pub program : bound.Program
program = record { declarations = declarations; bodies = bodies }

abbrev pub quiet : List (List Bool)
quiet = (([]) ∷ [])

abbrev pub lows : List (VarId × ℤ × ℤ)
lows = ([])

abbrev pub clean : List Bool
clean = (true ∷ [])

abbrev pub written : net.Project
written = (record {
  library = false;
  main = (Some (codes "Main1"));
  note = None;
  modules = ((record {
    name = (codes "Main1");
    class = false;
    members = (
        (net.proc (record {
          head = (net.sub net_visible.Public (codes "Main") ([]));
          prologue = (
              (net.local (record { name = (codes "s"); ty = net_types.str; value = None })) ∷
              (net.local (record { name = (codes "v"); ty = net_types.object; value = None })) ∷ []);
          lines = (
              (net.call (net.path ((codes "UpgradeSupport") ∷ (codes "PrintLine") ∷ [])) (net.next_exp (net.binary net_bin.Concat (net.binary
              net_bin.Concat (net.cast cast.CStr (net.binary net_bin.Equal (net.path ((codes "s") ∷ [])) (net.lit (net.str [])))) (net.call_of
              (net.path ((codes "UpgradeSupport") ∷ (codes "PrintNum") ∷ [])) (net.next_exp (net.cast cast.CDec (net.call_of (net.path
              ((codes "Microsoft") ∷ (codes "VisualBasic") ∷ (codes "Strings") ∷ (codes "Len") ∷ [])) (net.next_exp (net.path ((codes
              "s") ∷ [])) net.no_exps))) net.no_exps))) (net.binary net_bin.Concat (net.binary net_bin.Concat (net.lit (net.str (codes
              "["))) (net.path ((codes "s") ∷ []))) (net.lit (net.str (codes "]"))))) net.no_exps)) ∷
              (net.assign (net.path ((codes "v") ∷ [])) (net.cast cast.CObj (net.binary net_bin.Concat (net.lit (net.str [])) (net.path
              ((codes "s") ∷ []))))) ∷
              (net.call (net.path ((codes "UpgradeSupport") ∷ (codes "PrintLine") ∷ [])) (net.next_exp (net.cast cast.CStr (net.binary
              net_bin.Is (net.path ((codes "v") ∷ [])) net.nothing)) net.no_exps)) ∷
              (net.assign (net.path ((codes "s") ∷ [])) (net.lit (net.str []))) ∷
              (net.call (net.path ((codes "UpgradeSupport") ∷ (codes "PrintLine") ∷ [])) (net.next_exp (net.cast cast.CStr (net.binary
              net_bin.Equal (net.path ((codes "s") ∷ [])) (net.lit (net.str [])))) net.no_exps)) ∷ []);
          close = close.EndSub;
        })) ∷ []);
  }) ∷ []);
  support = (record {
    name = (codes "UpgradeSupport");
    class = false;
    members = (
        (net.proc (record {
          head = (net.sub net_visible.Public (codes "PrintLine") ((record {
            passing = net_passing.Value;
            name
                = (codes "s");
            ty = net_types.str;
          }) ∷ []));
          prologue = ([]);
          lines = (
              (net.call (net.path ((codes "System") ∷ (codes "Console") ∷ (codes "WriteLine") ∷ [])) (net.next_exp (net.path ((codes
              "s") ∷ [])) net.no_exps)) ∷ []);
          close = close.EndSub;
        })) ∷
        (net.proc (record {
          head = (net.function net_visible.Public (codes "CurText") ((record {
            passing = net_passing.Value;
            name = (codes "d");
            ty = net_types.decimal;
          }) ∷ []) net_types.str);
          prologue = ([]);
          lines = (
              (net.assign (net.path ((codes "CurText") ∷ [])) (net.call_of (net.path ((codes "d") ∷ (codes "ToString") ∷ [])) (net.next_exp
              (net.lit (net.str (codes "0.####"))) (net.next_exp (net.path ((codes "System") ∷ (codes "Globalization") ∷ (codes "CultureInfo")
              ∷ (codes "InvariantCulture") ∷ [])) net.no_exps)))) ∷ []);
          close = close.EndFunction;
        })) ∷
        (net.proc (record {
          head = (net.function net_visible.Public (codes "PrintNum") ((record {
            passing = net_passing.Value;
            name = (codes "d");
            ty = net_types.decimal;
          }) ∷ []) net_types.str);
          prologue = ([]);
          lines = (
              (net.if_head (net.binary net_bin.Less (net.path ((codes "d") ∷ [])) (net.lit (net.decimal (pos 0))))) ∷
              (net.assign (net.path ((codes "PrintNum") ∷ [])) (net.binary net_bin.Concat (net.call_of (net.path ((codes "CurText")
              ∷ [])) (net.next_exp (net.path ((codes "d") ∷ [])) net.no_exps)) (net.lit (net.str (codes " "))))) ∷
              net.else_line ∷
              (net.assign (net.path ((codes "PrintNum") ∷ [])) (net.binary net_bin.Concat (net.binary net_bin.Concat (net.lit (net.str
              (codes " "))) (net.call_of (net.path ((codes "CurText") ∷ [])) (net.next_exp (net.path ((codes "d") ∷ [])) net.no_exps)))
              (net.lit (net.str (codes " "))))) ∷
              net.end_if ∷ []);
          close = close.EndFunction;
        })) ∷ []);
  });
})

abbrev pub runnable : Runnable
runnable = runnable_of program quiet lows

said : ran runnable 0 2000 ≡ (
  line (codes "True 0 []")
      ++ line (codes "False")
      ++ line (codes "True"),
  ended,
)
unfolding digits
said = refl
