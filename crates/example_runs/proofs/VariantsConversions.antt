-- The program variants-conversions, what it puts out and how it ends.
use Rattle.std.proofs.Common.{◌≡◌, refl, ◌++◌, List, ℤ, pos, Bool, true, false, [], ◌∷◌, codes, Some, None}
use Rattle.vb_tree.specs.declared.declared.VarId.{VarId}
use Rattle.bound_tree.specs.Tree as bound
use Rattle.net_tree.specs.Tree as net
use Rattle.net_tree.specs.Types as net_types
use Rattle.vb_tree.specs.BoundTree as types
use Rattle.vb_tree.specs.Tree as vb
use Rattle.vb_tree.specs.declared.expression.BinOp.TheVariants as bin
use Rattle.net_tree.specs.declared.expression.CastWord.TheVariants as cast
use Rattle.net_tree.specs.declared.declaration.NetClose.TheVariants as close
use Rattle.vb_tree.specs.declared.declared.ProcKind.TheVariants as kind
use Rattle.vb_tree.specs.declared.bound.LibCall.TheVariants as lib
use Rattle.vb_tree.specs.declared.token.Literal6.TheVariants as literal
use Rattle.bound_tree.specs.declared.body.Mention.TheVariants as mention
use Rattle.bound_tree.specs.declared.declared.Named.TheVariants as named
use Rattle.net_tree.specs.declared.expression.NetBin.TheVariants as net_bin
use Rattle.net_tree.specs.declared.declaration.NetPassing.TheVariants as net_passing
use Rattle.net_tree.specs.declared.expression.NetUn.TheVariants as net_un
use Rattle.net_tree.specs.declared.declaration.NetVisibility.TheVariants as net_visible
use Rattle.bound_tree.specs.declared.expression.Origin.TheVariants as origin
use Rattle.vb_tree.specs.declared.declared.Owner.TheVariants as owner
use Rattle.vb_tree.specs.declared.project.ProjectKind.TheVariants as project_kind
use Rattle.bound_tree.specs.declared.declared.Scope.TheVariants as scope
use Rattle.vb_tree.specs.declared.token.Suffix.TheVariants as suffix
use Rattle.vb_tree.specs.declared.value.Value6.TheVariants as value
use Rattle.vb_tree.specs.declared.form_parts.VarWord.TheVariants as var
use Rattle.vb_tree.specs.declared.form_parts.Visibility.TheVariants as visible
use Rattle.std.specs.Fmt.{digits}
use Rattle.example_runs.proofs.Said.{ended, line, ran, ran_written, runnable_of}
use Rattle.vb6_run.specs.Runnables.{Runnable}

abbrev pub project : vb.Project
project = (record {
  file = (record {
    kind = project_kind.Exe;
    startup = (Some (3, (codes "Sub Main")));
    entries = ((record
        { line = 2; class = false; name = (codes "Main1"); file = (codes "Main1.bas") }) ∷ []);
    dropped = ([]);
  });
  modules = ((record {
    file = 1;
    name = (codes "Main1");
    class = false;
    members = (
        (vb.proc (record {
          place = (record { file = 1; line = 1 });
          text = (codes "Sub Main()");
          form = (vb.sub_head (record {
            visibility = None;
            name = (codes "Main");
            suffix = suffix.Absent;
            params = ([]);
          }));
        }) (vb.next_node
        (vb.line (record {
          place = (record { file = 1; line = 2 });
          text = (codes "Dim v As Variant, b As Boolean, y As Byte, i As Integer, n As Long, c As Currency, s As String");
          form = (vb.variables var.Dim ((record {
            name = (codes "v");
            suffix = suffix.Absent;
            bounds = None;
            auto = false;
            ty =
                (Some (vb.named (codes "Variant")));
          }) ∷ (record {
            name = (codes "b");
            suffix = suffix.Absent;
            bounds = None;
            auto = false;
            ty = (Some (vb.named (codes "Boolean")));
          }) ∷ (record {
            name = (codes "y");
            suffix = suffix.Absent;
            bounds = None;
            auto
                = false;
            ty = (Some (vb.named (codes "Byte")));
          }) ∷ (record {
            name = (codes "i");
            suffix = suffix.Absent;
            bounds = None;
            auto = false;
            ty = (Some (vb.named (codes "Integer")));
          }) ∷ (record {
            name = (codes "n");
            suffix = suffix.Absent;
            bounds
                = None;
            auto = false;
            ty = (Some (vb.named (codes "Long")));
          }) ∷ (record {
            name = (codes "c");
            suffix = suffix.Absent;
            bounds = None;
            auto = false;
            ty = (Some (vb.named (codes "Currency")));
          }) ∷ (record {
            name = (codes "s");
            suffix = suffix.Absent;
            bounds = None;
            auto = false;
            ty = (Some (vb.named (codes "String")));
          }) ∷ []));
        })) (vb.next_node
        (vb.line (record {
          place = (record { file = 1; line = 3 });
          text = (68 ∷ 101 ∷ 98 ∷ 117 ∷ 103 ∷ 46 ∷ 80 ∷ 114 ∷ 105
              ∷ 110 ∷ 116 ∷ 32 ∷ 67 ∷ 76 ∷ 110 ∷ 103 ∷ 40 ∷ 118 ∷ 41 ∷ 59 ∷ 32 ∷ 67 ∷ 83 ∷ 116 ∷ 114 ∷ 40 ∷ 118 ∷ 41 ∷ 32 ∷ 38 ∷ 32
              ∷ 34 ∷ 46 ∷ 34 ∷ 59 ∷ 32 ∷ 67 ∷ 66 ∷ 111 ∷ 111 ∷ 108 ∷ 40 ∷ 118 ∷ 41 ∷ 59 ∷ 32 ∷ 67 ∷ 67 ∷ 117 ∷ 114 ∷ 40 ∷ 118 ∷ 41 ∷
              59 ∷ 32 ∷ 67 ∷ 66 ∷ 121 ∷ 116 ∷ 101 ∷ 40 ∷ 118 ∷ 41 ∷ 59 ∷ 32 ∷ 67 ∷ 73 ∷ 110 ∷ 116 ∷ 40 ∷ 118 ∷ 41 ∷ []);
          form = (vb.debug_print
              ((vb.index (vb.word (codes "CLng") suffix.Absent) (vb.next_arg None false (vb.given (vb.word (codes "v") suffix.Absent))
              vb.no_args)) ∷ (vb.binary bin.Concat (vb.index (vb.word (codes "CStr") suffix.Absent) (vb.next_arg None false (vb.given
              (vb.word (codes "v") suffix.Absent)) vb.no_args)) (vb.lit (literal.Str (codes ".")))) ∷ (vb.index (vb.word (codes "CBool")
              suffix.Absent) (vb.next_arg None false (vb.given (vb.word (codes "v") suffix.Absent)) vb.no_args)) ∷ (vb.index (vb.word
              (codes "CCur") suffix.Absent) (vb.next_arg None false (vb.given (vb.word (codes "v") suffix.Absent)) vb.no_args)) ∷ (vb.index
              (vb.word (codes "CByte") suffix.Absent) (vb.next_arg None false (vb.given (vb.word (codes "v") suffix.Absent)) vb.no_args))
              ∷ (vb.index (vb.word (codes "CInt") suffix.Absent) (vb.next_arg None false (vb.given (vb.word (codes "v") suffix.Absent))
              vb.no_args)) ∷ []) false);
        })) (vb.next_node
        (vb.line (record {
          place = (record { file = 1; line = 4 });
          text = (codes "n = v");
          form = (vb.assign (vb.word (codes
              "n") suffix.Absent) (vb.word (codes "v") suffix.Absent));
        })) (vb.next_node
        (vb.line (record {
          place = (record { file = 1; line = 5 });
          text = (codes "s = v");
          form = (vb.assign (vb.word (codes
              "s") suffix.Absent) (vb.word (codes "v") suffix.Absent));
        })) (vb.next_node
        (vb.line (record {
          place = (record { file = 1; line = 6 });
          text = (codes "v = 5");
          form = (vb.assign (vb.word (codes
              "v") suffix.Absent) (vb.lit (literal.Int (pos 5) false)));
        })) (vb.next_node
        (vb.line (record {
          place = (record { file = 1; line = 7 });
          text = (codes "b = v");
          form = (vb.assign (vb.word (codes
              "b") suffix.Absent) (vb.word (codes "v") suffix.Absent));
        })) (vb.next_node
        (vb.line (record {
          place = (record { file = 1; line = 7 });
          text = (codes "y = v");
          form = (vb.assign (vb.word (codes
              "y") suffix.Absent) (vb.word (codes "v") suffix.Absent));
        })) (vb.next_node
        (vb.line (record {
          place = (record { file = 1; line = 7 });
          text = (codes "i = v");
          form = (vb.assign (vb.word (codes
              "i") suffix.Absent) (vb.word (codes "v") suffix.Absent));
        })) (vb.next_node
        (vb.line (record {
          place = (record { file = 1; line = 7 });
          text = (codes "n = v");
          form = (vb.assign (vb.word (codes
              "n") suffix.Absent) (vb.word (codes "v") suffix.Absent));
        })) (vb.next_node
        (vb.line (record {
          place = (record { file = 1; line = 7 });
          text = (codes "c = v");
          form = (vb.assign (vb.word (codes
              "c") suffix.Absent) (vb.word (codes "v") suffix.Absent));
        })) (vb.next_node
        (vb.line (record {
          place = (record { file = 1; line = 7 });
          text = (codes "s = v");
          form = (vb.assign (vb.word (codes
              "s") suffix.Absent) (vb.word (codes "v") suffix.Absent));
        })) (vb.next_node
        (vb.line (record {
          place = (record { file = 1; line = 8 });
          text = (codes "Debug.Print b; y; i; n; c; s");
          form = (vb.debug_print
              ((vb.word (codes "b") suffix.Absent) ∷ (vb.word (codes "y") suffix.Absent) ∷ (vb.word (codes "i") suffix.Absent) ∷ (vb.word
              (codes "n") suffix.Absent) ∷ (vb.word (codes "c") suffix.Absent) ∷ (vb.word (codes "s") suffix.Absent) ∷ []) false);
        }))
        (vb.next_node
        (vb.line (record {
          place = (record { file = 1; line = 9 });
          text = (codes "v = True");
          form = (vb.assign (vb.word (codes
              "v") suffix.Absent) (vb.word (codes "True") suffix.Absent));
        })) (vb.next_node
        (vb.line (record {
          place = (record { file = 1; line = 10 });
          text = (codes "b = v");
          form = (vb.assign (vb.word (codes
              "b") suffix.Absent) (vb.word (codes "v") suffix.Absent));
        })) (vb.next_node
        (vb.line (record {
          place = (record { file = 1; line = 10 });
          text = (codes "y = v");
          form = (vb.assign (vb.word (codes
              "y") suffix.Absent) (vb.word (codes "v") suffix.Absent));
        })) (vb.next_node
        (vb.line (record {
          place = (record { file = 1; line = 10 });
          text = (codes "i = v");
          form = (vb.assign (vb.word (codes
              "i") suffix.Absent) (vb.word (codes "v") suffix.Absent));
        })) (vb.next_node
        (vb.line (record {
          place = (record { file = 1; line = 10 });
          text = (codes "n = v");
          form = (vb.assign (vb.word (codes
              "n") suffix.Absent) (vb.word (codes "v") suffix.Absent));
        })) (vb.next_node
        (vb.line (record {
          place = (record { file = 1; line = 10 });
          text = (codes "c = v");
          form = (vb.assign (vb.word (codes
              "c") suffix.Absent) (vb.word (codes "v") suffix.Absent));
        })) (vb.next_node
        (vb.line (record {
          place = (record { file = 1; line = 10 });
          text = (codes "s = v");
          form = (vb.assign (vb.word (codes
              "s") suffix.Absent) (vb.word (codes "v") suffix.Absent));
        })) (vb.next_node
        (vb.line (record {
          place = (record { file = 1; line = 11 });
          text = (codes "Debug.Print b; y; i; n; c; s");
          form = (vb.debug_print
              ((vb.word (codes "b") suffix.Absent) ∷ (vb.word (codes "y") suffix.Absent) ∷ (vb.word (codes "i") suffix.Absent) ∷ (vb.word
              (codes "n") suffix.Absent) ∷ (vb.word (codes "c") suffix.Absent) ∷ (vb.word (codes "s") suffix.Absent) ∷ []) false);
        }))
        (vb.next_node
        (vb.line (record {
          place = (record { file = 1; line = 12 });
          text = (codes "v = 2.5@");
          form = (vb.assign (vb.word (codes
              "v") suffix.Absent) (vb.lit (literal.Cur (pos 25000))));
        })) (vb.next_node
        (vb.line (record {
          place = (record { file = 1; line = 13 });
          text = (codes "b = v");
          form = (vb.assign (vb.word (codes
              "b") suffix.Absent) (vb.word (codes "v") suffix.Absent));
        })) (vb.next_node
        (vb.line (record {
          place = (record { file = 1; line = 13 });
          text = (codes "y = v");
          form = (vb.assign (vb.word (codes
              "y") suffix.Absent) (vb.word (codes "v") suffix.Absent));
        })) (vb.next_node
        (vb.line (record {
          place = (record { file = 1; line = 13 });
          text = (codes "i = v");
          form = (vb.assign (vb.word (codes
              "i") suffix.Absent) (vb.word (codes "v") suffix.Absent));
        })) (vb.next_node
        (vb.line (record {
          place = (record { file = 1; line = 13 });
          text = (codes "n = v");
          form = (vb.assign (vb.word (codes
              "n") suffix.Absent) (vb.word (codes "v") suffix.Absent));
        })) (vb.next_node
        (vb.line (record {
          place = (record { file = 1; line = 13 });
          text = (codes "c = v");
          form = (vb.assign (vb.word (codes
              "c") suffix.Absent) (vb.word (codes "v") suffix.Absent));
        })) (vb.next_node
        (vb.line (record {
          place = (record { file = 1; line = 13 });
          text = (codes "s = v");
          form = (vb.assign (vb.word (codes
              "s") suffix.Absent) (vb.word (codes "v") suffix.Absent));
        })) (vb.next_node
        (vb.line (record {
          place = (record { file = 1; line = 14 });
          text = (codes "Debug.Print b; y; i; n; c; s");
          form = (vb.debug_print
              ((vb.word (codes "b") suffix.Absent) ∷ (vb.word (codes "y") suffix.Absent) ∷ (vb.word (codes "i") suffix.Absent) ∷ (vb.word
              (codes "n") suffix.Absent) ∷ (vb.word (codes "c") suffix.Absent) ∷ (vb.word (codes "s") suffix.Absent) ∷ []) false);
        }))
        (vb.next_node
        (vb.line (record {
          place = (record { file = 1; line = 15 });
          text = (118 ∷ 32 ∷ 61 ∷ 32 ∷ 34 ∷ 120 ∷ 34 ∷ []);
          form
              = (vb.assign (vb.word (codes "v") suffix.Absent) (vb.lit (literal.Str (codes "x"))));
        })) (vb.next_node
        (vb.line (record {
          place = (record { file = 1; line = 16 });
          text = (codes "s = v");
          form = (vb.assign (vb.word (codes
              "s") suffix.Absent) (vb.word (codes "v") suffix.Absent));
        })) (vb.next_node
        (vb.line (record {
          place = (record { file = 1; line = 17 });
          text = (codes "Debug.Print s; v & 5");
          form = (vb.debug_print
              ((vb.word (codes "s") suffix.Absent) ∷ (vb.binary bin.Concat (vb.word (codes "v") suffix.Absent) (vb.lit (literal.Int
              (pos 5) false))) ∷ []) false);
        })) vb.no_nodes))))))))))))))))))))))))))))))) (record {
          place = (record {
            file = 1;
            line
                = 18;
          });
          text = (codes "End Sub");
          form = vb.end_sub;
        })) ∷ []);
    comments = ([]);
  }) ∷ []);
})

abbrev pub declarations : bound.Declarations
declarations = (record {
  project = project;
  names = (
      (record { name = (codes "Main"); scope = (scope.Public 1); named = (named.Proc (record { 0 = 0 })) }) ∷
      (record { name = (codes "v"); scope = (scope.Local (record { 0 = 0 })); named = (named.Var (record { 0 = 0 })) }) ∷
      (record { name = (codes "b"); scope = (scope.Local (record { 0 = 0 })); named = (named.Var (record { 0 = 1 })) }) ∷
      (record { name = (codes "y"); scope = (scope.Local (record { 0 = 0 })); named = (named.Var (record { 0 = 2 })) }) ∷
      (record { name = (codes "i"); scope = (scope.Local (record { 0 = 0 })); named = (named.Var (record { 0 = 3 })) }) ∷
      (record { name = (codes "n"); scope = (scope.Local (record { 0 = 0 })); named = (named.Var (record { 0 = 4 })) }) ∷
      (record { name = (codes "c"); scope = (scope.Local (record { 0 = 0 })); named = (named.Var (record { 0 = 5 })) }) ∷
      (record { name = (codes "s"); scope = (scope.Local (record { 0 = 0 })); named = (named.Var (record { 0 = 6 })) }) ∷ []);
  vars = (
      (record {
        name = (codes "v");
        place = (record { file = 1; line = 2 });
        statement = 1;
        owner = (owner.Local (record {
          0
              = 0;
        }));
        ty = types.variant;
        named = types.variant;
        qualified = false;
        lettered = None;
        bounds = ([]);
        auto = false;
        preset
            = None;
      }) ∷
      (record {
        name = (codes "b");
        place = (record { file = 1; line = 2 });
        statement = 1;
        owner = (owner.Local (record {
          0
              = 0;
        }));
        ty = types.boolean;
        named = types.boolean;
        qualified = false;
        lettered = None;
        bounds = ([]);
        auto = false;
        preset
            = None;
      }) ∷
      (record {
        name = (codes "y");
        place = (record { file = 1; line = 2 });
        statement = 1;
        owner = (owner.Local (record {
          0
              = 0;
        }));
        ty = types.byte;
        named = types.byte;
        qualified = false;
        lettered = None;
        bounds = ([]);
        auto = false;
        preset
            = None;
      }) ∷
      (record {
        name = (codes "i");
        place = (record { file = 1; line = 2 });
        statement = 1;
        owner = (owner.Local (record {
          0
              = 0;
        }));
        ty = types.integer;
        named = types.integer;
        qualified = false;
        lettered = None;
        bounds = ([]);
        auto = false;
        preset
            = None;
      }) ∷
      (record {
        name = (codes "n");
        place = (record { file = 1; line = 2 });
        statement = 1;
        owner = (owner.Local (record {
          0
              = 0;
        }));
        ty = types.long;
        named = types.long;
        qualified = false;
        lettered = None;
        bounds = ([]);
        auto = false;
        preset
            = None;
      }) ∷
      (record {
        name = (codes "c");
        place = (record { file = 1; line = 2 });
        statement = 1;
        owner = (owner.Local (record {
          0
              = 0;
        }));
        ty = types.currency;
        named = types.currency;
        qualified = false;
        lettered = None;
        bounds = ([]);
        auto = false;
        preset = None;
      }) ∷
      (record {
        name = (codes "s");
        place = (record { file = 1; line = 2 });
        statement = 1;
        owner = (owner.Local (record {
          0
              = 0;
        }));
        ty = types.str;
        named = types.str;
        qualified = false;
        lettered = None;
        bounds = ([]);
        auto = false;
        preset =
            None;
      }) ∷ []);
  consts = ([]);
  procs = (
      (record {
        name = (codes "Main");
        place = (record { file = 1; line = 1 });
        module_number = 1;
        kind = kind.Sub;
        visibility
            = visible.Public;
        params = ([]);
        result = types.nothing;
        answer = None;
        first = (record { 0 = 0 });
      }) ∷ []);
  types = ([]);
  enums = ([]);
  defaults = ([]);
})

abbrev pub body_0 : List bound.Line
body_0 = (
    (record {
      source = (record {
        place = (record { file = 1; line = 3 });
        text = (68 ∷ 101 ∷ 98 ∷ 117 ∷ 103 ∷ 46 ∷ 80 ∷ 114
            ∷ 105 ∷ 110 ∷ 116 ∷ 32 ∷ 67 ∷ 76 ∷ 110 ∷ 103 ∷ 40 ∷ 118 ∷ 41 ∷ 59 ∷ 32 ∷ 67 ∷ 83 ∷ 116 ∷ 114 ∷ 40 ∷ 118 ∷ 41 ∷ 32 ∷ 38
            ∷ 32 ∷ 34 ∷ 46 ∷ 34 ∷ 59 ∷ 32 ∷ 67 ∷ 66 ∷ 111 ∷ 111 ∷ 108 ∷ 40 ∷ 118 ∷ 41 ∷ 59 ∷ 32 ∷ 67 ∷ 67 ∷ 117 ∷ 114 ∷ 40 ∷ 118 ∷
            41 ∷ 59 ∷ 32 ∷ 67 ∷ 66 ∷ 121 ∷ 116 ∷ 101 ∷ 40 ∷ 118 ∷ 41 ∷ 59 ∷ 32 ∷ 67 ∷ 73 ∷ 110 ∷ 116 ∷ 40 ∷ 118 ∷ 41 ∷ []);
        form =
            (vb.debug_print ((vb.index (vb.word (codes "CLng") suffix.Absent) (vb.next_arg None false (vb.given (vb.word (codes "v")
            suffix.Absent)) vb.no_args)) ∷ (vb.binary bin.Concat (vb.index (vb.word (codes "CStr") suffix.Absent) (vb.next_arg None
            false (vb.given (vb.word (codes "v") suffix.Absent)) vb.no_args)) (vb.lit (literal.Str (codes ".")))) ∷ (vb.index (vb.word
            (codes "CBool") suffix.Absent) (vb.next_arg None false (vb.given (vb.word (codes "v") suffix.Absent)) vb.no_args)) ∷ (vb.index
            (vb.word (codes "CCur") suffix.Absent) (vb.next_arg None false (vb.given (vb.word (codes "v") suffix.Absent)) vb.no_args))
            ∷ (vb.index (vb.word (codes "CByte") suffix.Absent) (vb.next_arg None false (vb.given (vb.word (codes "v") suffix.Absent))
            vb.no_args)) ∷ (vb.index (vb.word (codes "CInt") suffix.Absent) (vb.next_arg None false (vb.given (vb.word (codes "v")
            suffix.Absent)) vb.no_args)) ∷ []) false);
      });
      bindings = (record {
        exprs = ((bound.typed types.long (bound.library lib.CLng
            (bound.next_expr (bound.typed types.variant (bound.variable (record { 0 = 0 }) false)) bound.no_exprs))) ∷ (bound.typed
            types.str (bound.binary bin.Concat (bound.typed types.str (bound.library lib.CStr (bound.next_expr (bound.typed types.variant
            (bound.variable (record { 0 = 0 }) false)) bound.no_exprs))) (bound.typed types.str (bound.constant (value.Str (codes
            ".")) origin.Literal)))) ∷ (bound.typed types.boolean (bound.library lib.CBool (bound.next_expr (bound.typed types.variant
            (bound.variable (record { 0 = 0 }) false)) bound.no_exprs))) ∷ (bound.typed types.currency (bound.library lib.CCur (bound.next_expr
            (bound.typed types.variant (bound.variable (record { 0 = 0 }) false)) bound.no_exprs))) ∷ (bound.typed types.byte (bound.library
            lib.CByte (bound.next_expr (bound.typed types.variant (bound.variable (record { 0 = 0 }) false)) bound.no_exprs))) ∷ (bound.typed
            types.integer (bound.library lib.CInt (bound.next_expr (bound.typed types.variant (bound.variable (record { 0 = 0 }) false))
            bound.no_exprs))) ∷ []);
        rules = (record { bits = 0 });
        mentions = ((mention.Var (record { 0 = 0 })) ∷ (mention.Var (record
            { 0 = 0 })) ∷ (mention.Var (record { 0 = 0 })) ∷ (mention.Var (record { 0 = 0 })) ∷ (mention.Var (record { 0 = 0 })) ∷
            (mention.Var (record { 0 = 0 })) ∷ []);
      });
    }) ∷
    (record {
      source = (record {
        place = (record { file = 1; line = 4 });
        text = (codes "n = v");
        form = (vb.assign (vb.word
            (codes "n") suffix.Absent) (vb.word (codes "v") suffix.Absent));
      });
      bindings = (record {
        exprs = ((bound.typed types.long
            (bound.variable (record { 0 = 4 }) false)) ∷ (bound.typed types.long (bound.convert types.long (bound.typed types.variant
            (bound.variable (record { 0 = 0 }) false)))) ∷ []);
        rules = (record { bits = 0 });
        mentions = ((mention.Var (record {
          0 = 4;
        })) ∷ (mention.Var (record { 0 = 0 })) ∷ []);
      });
    }) ∷
    (record {
      source = (record {
        place = (record { file = 1; line = 5 });
        text = (codes "s = v");
        form = (vb.assign (vb.word
            (codes "s") suffix.Absent) (vb.word (codes "v") suffix.Absent));
      });
      bindings = (record {
        exprs = ((bound.typed types.str
            (bound.variable (record { 0 = 6 }) false)) ∷ (bound.typed types.str (bound.convert types.str (bound.typed types.variant
            (bound.variable (record { 0 = 0 }) false)))) ∷ []);
        rules = (record { bits = 0 });
        mentions = ((mention.Var (record {
          0 = 6;
        })) ∷ (mention.Var (record { 0 = 0 })) ∷ []);
      });
    }) ∷
    (record {
      source = (record {
        place = (record { file = 1; line = 6 });
        text = (codes "v = 5");
        form = (vb.assign (vb.word
            (codes "v") suffix.Absent) (vb.lit (literal.Int (pos 5) false)));
      });
      bindings = (record {
        exprs = ((bound.typed types.variant
            (bound.variable (record { 0 = 0 }) false)) ∷ (bound.typed types.variant (bound.convert types.variant (bound.typed types.integer
            (bound.constant (value.Int (pos 5)) origin.Literal)))) ∷ []);
        rules = (record { bits = 0 });
        mentions = ((mention.Var
            (record { 0 = 0 })) ∷ []);
      });
    }) ∷
    (record {
      source = (record {
        place = (record { file = 1; line = 7 });
        text = (codes "b = v");
        form = (vb.assign (vb.word
            (codes "b") suffix.Absent) (vb.word (codes "v") suffix.Absent));
      });
      bindings = (record {
        exprs = ((bound.typed types.boolean
            (bound.variable (record { 0 = 1 }) false)) ∷ (bound.typed types.boolean (bound.convert types.boolean (bound.typed types.variant
            (bound.variable (record { 0 = 0 }) false)))) ∷ []);
        rules = (record { bits = 0 });
        mentions = ((mention.Var (record {
          0 = 1;
        })) ∷ (mention.Var (record { 0 = 0 })) ∷ []);
      });
    }) ∷
    (record {
      source = (record {
        place = (record { file = 1; line = 7 });
        text = (codes "y = v");
        form = (vb.assign (vb.word
            (codes "y") suffix.Absent) (vb.word (codes "v") suffix.Absent));
      });
      bindings = (record {
        exprs = ((bound.typed types.byte
            (bound.variable (record { 0 = 2 }) false)) ∷ (bound.typed types.byte (bound.convert types.byte (bound.typed types.variant
            (bound.variable (record { 0 = 0 }) false)))) ∷ []);
        rules = (record { bits = 0 });
        mentions = ((mention.Var (record {
          0 = 2;
        })) ∷ (mention.Var (record { 0 = 0 })) ∷ []);
      });
    }) ∷
    (record {
      source = (record {
        place = (record { file = 1; line = 7 });
        text = (codes "i = v");
        form = (vb.assign (vb.word
            (codes "i") suffix.Absent) (vb.word (codes "v") suffix.Absent));
      });
      bindings = (record {
        exprs = ((bound.typed types.integer
            (bound.variable (record { 0 = 3 }) false)) ∷ (bound.typed types.integer (bound.convert types.integer (bound.typed types.variant
            (bound.variable (record { 0 = 0 }) false)))) ∷ []);
        rules = (record { bits = 0 });
        mentions = ((mention.Var (record {
          0 = 3;
        })) ∷ (mention.Var (record { 0 = 0 })) ∷ []);
      });
    }) ∷
    (record {
      source = (record {
        place = (record { file = 1; line = 7 });
        text = (codes "n = v");
        form = (vb.assign (vb.word
            (codes "n") suffix.Absent) (vb.word (codes "v") suffix.Absent));
      });
      bindings = (record {
        exprs = ((bound.typed types.long
            (bound.variable (record { 0 = 4 }) false)) ∷ (bound.typed types.long (bound.convert types.long (bound.typed types.variant
            (bound.variable (record { 0 = 0 }) false)))) ∷ []);
        rules = (record { bits = 0 });
        mentions = ((mention.Var (record {
          0 = 4;
        })) ∷ (mention.Var (record { 0 = 0 })) ∷ []);
      });
    }) ∷
    (record {
      source = (record {
        place = (record { file = 1; line = 7 });
        text = (codes "c = v");
        form = (vb.assign (vb.word
            (codes "c") suffix.Absent) (vb.word (codes "v") suffix.Absent));
      });
      bindings = (record {
        exprs = ((bound.typed types.currency
            (bound.variable (record { 0 = 5 }) false)) ∷ (bound.typed types.currency (bound.convert types.currency (bound.typed types.variant
            (bound.variable (record { 0 = 0 }) false)))) ∷ []);
        rules = (record { bits = 0 });
        mentions = ((mention.Var (record {
          0 = 5;
        })) ∷ (mention.Var (record { 0 = 0 })) ∷ []);
      });
    }) ∷
    (record {
      source = (record {
        place = (record { file = 1; line = 7 });
        text = (codes "s = v");
        form = (vb.assign (vb.word
            (codes "s") suffix.Absent) (vb.word (codes "v") suffix.Absent));
      });
      bindings = (record {
        exprs = ((bound.typed types.str
            (bound.variable (record { 0 = 6 }) false)) ∷ (bound.typed types.str (bound.convert types.str (bound.typed types.variant
            (bound.variable (record { 0 = 0 }) false)))) ∷ []);
        rules = (record { bits = 0 });
        mentions = ((mention.Var (record {
          0 = 6;
        })) ∷ (mention.Var (record { 0 = 0 })) ∷ []);
      });
    }) ∷
    (record {
      source = (record {
        place = (record { file = 1; line = 8 });
        text = (codes "Debug.Print b; y; i; n; c; s");
        form
            = (vb.debug_print ((vb.word (codes "b") suffix.Absent) ∷ (vb.word (codes "y") suffix.Absent) ∷ (vb.word (codes "i") suffix.Absent)
            ∷ (vb.word (codes "n") suffix.Absent) ∷ (vb.word (codes "c") suffix.Absent) ∷ (vb.word (codes "s") suffix.Absent) ∷ [])
            false);
      });
      bindings = (record {
        exprs = ((bound.typed types.boolean (bound.variable (record { 0 = 1 }) false)) ∷ (bound.typed
            types.byte (bound.variable (record { 0 = 2 }) false)) ∷ (bound.typed types.integer (bound.variable (record { 0 = 3 })
            false)) ∷ (bound.typed types.long (bound.variable (record { 0 = 4 }) false)) ∷ (bound.typed types.currency (bound.variable
            (record { 0 = 5 }) false)) ∷ (bound.typed types.str (bound.variable (record { 0 = 6 }) false)) ∷ []);
        rules = (record
            { bits = 0 });
        mentions = ((mention.Var (record { 0 = 1 })) ∷ (mention.Var (record { 0 = 2 })) ∷ (mention.Var (record
            { 0 = 3 })) ∷ (mention.Var (record { 0 = 4 })) ∷ (mention.Var (record { 0 = 5 })) ∷ (mention.Var (record { 0 = 6 })) ∷
            []);
      });
    }) ∷
    (record {
      source = (record {
        place = (record { file = 1; line = 9 });
        text = (codes "v = True");
        form = (vb.assign (vb.word
            (codes "v") suffix.Absent) (vb.word (codes "True") suffix.Absent));
      });
      bindings = (record {
        exprs = ((bound.typed types.variant
            (bound.variable (record { 0 = 0 }) false)) ∷ (bound.typed types.variant (bound.convert types.variant (bound.typed types.boolean
            (bound.constant (value.Boolean true) origin.Literal)))) ∷ []);
        rules = (record { bits = 0 });
        mentions = ((mention.Var
            (record { 0 = 0 })) ∷ []);
      });
    }) ∷
    (record {
      source = (record {
        place = (record { file = 1; line = 10 });
        text = (codes "b = v");
        form = (vb.assign (vb.word
            (codes "b") suffix.Absent) (vb.word (codes "v") suffix.Absent));
      });
      bindings = (record {
        exprs = ((bound.typed types.boolean
            (bound.variable (record { 0 = 1 }) false)) ∷ (bound.typed types.boolean (bound.convert types.boolean (bound.typed types.variant
            (bound.variable (record { 0 = 0 }) false)))) ∷ []);
        rules = (record { bits = 0 });
        mentions = ((mention.Var (record {
          0 = 1;
        })) ∷ (mention.Var (record { 0 = 0 })) ∷ []);
      });
    }) ∷
    (record {
      source = (record {
        place = (record { file = 1; line = 10 });
        text = (codes "y = v");
        form = (vb.assign (vb.word
            (codes "y") suffix.Absent) (vb.word (codes "v") suffix.Absent));
      });
      bindings = (record {
        exprs = ((bound.typed types.byte
            (bound.variable (record { 0 = 2 }) false)) ∷ (bound.typed types.byte (bound.convert types.byte (bound.typed types.variant
            (bound.variable (record { 0 = 0 }) false)))) ∷ []);
        rules = (record { bits = 0 });
        mentions = ((mention.Var (record {
          0 = 2;
        })) ∷ (mention.Var (record { 0 = 0 })) ∷ []);
      });
    }) ∷
    (record {
      source = (record {
        place = (record { file = 1; line = 10 });
        text = (codes "i = v");
        form = (vb.assign (vb.word
            (codes "i") suffix.Absent) (vb.word (codes "v") suffix.Absent));
      });
      bindings = (record {
        exprs = ((bound.typed types.integer
            (bound.variable (record { 0 = 3 }) false)) ∷ (bound.typed types.integer (bound.convert types.integer (bound.typed types.variant
            (bound.variable (record { 0 = 0 }) false)))) ∷ []);
        rules = (record { bits = 0 });
        mentions = ((mention.Var (record {
          0 = 3;
        })) ∷ (mention.Var (record { 0 = 0 })) ∷ []);
      });
    }) ∷
    (record {
      source = (record {
        place = (record { file = 1; line = 10 });
        text = (codes "n = v");
        form = (vb.assign (vb.word
            (codes "n") suffix.Absent) (vb.word (codes "v") suffix.Absent));
      });
      bindings = (record {
        exprs = ((bound.typed types.long
            (bound.variable (record { 0 = 4 }) false)) ∷ (bound.typed types.long (bound.convert types.long (bound.typed types.variant
            (bound.variable (record { 0 = 0 }) false)))) ∷ []);
        rules = (record { bits = 0 });
        mentions = ((mention.Var (record {
          0 = 4;
        })) ∷ (mention.Var (record { 0 = 0 })) ∷ []);
      });
    }) ∷
    (record {
      source = (record {
        place = (record { file = 1; line = 10 });
        text = (codes "c = v");
        form = (vb.assign (vb.word
            (codes "c") suffix.Absent) (vb.word (codes "v") suffix.Absent));
      });
      bindings = (record {
        exprs = ((bound.typed types.currency
            (bound.variable (record { 0 = 5 }) false)) ∷ (bound.typed types.currency (bound.convert types.currency (bound.typed types.variant
            (bound.variable (record { 0 = 0 }) false)))) ∷ []);
        rules = (record { bits = 0 });
        mentions = ((mention.Var (record {
          0 = 5;
        })) ∷ (mention.Var (record { 0 = 0 })) ∷ []);
      });
    }) ∷
    (record {
      source = (record {
        place = (record { file = 1; line = 10 });
        text = (codes "s = v");
        form = (vb.assign (vb.word
            (codes "s") suffix.Absent) (vb.word (codes "v") suffix.Absent));
      });
      bindings = (record {
        exprs = ((bound.typed types.str
            (bound.variable (record { 0 = 6 }) false)) ∷ (bound.typed types.str (bound.convert types.str (bound.typed types.variant
            (bound.variable (record { 0 = 0 }) false)))) ∷ []);
        rules = (record { bits = 0 });
        mentions = ((mention.Var (record {
          0 = 6;
        })) ∷ (mention.Var (record { 0 = 0 })) ∷ []);
      });
    }) ∷
    (record {
      source = (record {
        place = (record { file = 1; line = 11 });
        text = (codes "Debug.Print b; y; i; n; c; s");
        form = (vb.debug_print ((vb.word (codes "b") suffix.Absent) ∷ (vb.word (codes "y") suffix.Absent) ∷ (vb.word (codes "i")
            suffix.Absent) ∷ (vb.word (codes "n") suffix.Absent) ∷ (vb.word (codes "c") suffix.Absent) ∷ (vb.word (codes "s") suffix.Absent)
            ∷ []) false);
      });
      bindings = (record {
        exprs = ((bound.typed types.boolean (bound.variable (record { 0 = 1 }) false)) ∷
            (bound.typed types.byte (bound.variable (record { 0 = 2 }) false)) ∷ (bound.typed types.integer (bound.variable (record
            { 0 = 3 }) false)) ∷ (bound.typed types.long (bound.variable (record { 0 = 4 }) false)) ∷ (bound.typed types.currency
            (bound.variable (record { 0 = 5 }) false)) ∷ (bound.typed types.str (bound.variable (record { 0 = 6 }) false)) ∷ []);
        rules = (record { bits = 0 });
        mentions = ((mention.Var (record { 0 = 1 })) ∷ (mention.Var (record { 0 = 2 })) ∷ (mention.Var
            (record { 0 = 3 })) ∷ (mention.Var (record { 0 = 4 })) ∷ (mention.Var (record { 0 = 5 })) ∷ (mention.Var (record {
              0 =
                  6;
            })) ∷ []);
      });
    }) ∷
    (record {
      source = (record {
        place = (record { file = 1; line = 12 });
        text = (codes "v = 2.5@");
        form = (vb.assign (vb.word
            (codes "v") suffix.Absent) (vb.lit (literal.Cur (pos 25000))));
      });
      bindings = (record {
        exprs = ((bound.typed types.variant
            (bound.variable (record { 0 = 0 }) false)) ∷ (bound.typed types.variant (bound.convert types.variant (bound.typed types.currency
            (bound.constant (value.Cur (pos 25000)) origin.Literal)))) ∷ []);
        rules = (record { bits = 0 });
        mentions = ((mention.Var
            (record { 0 = 0 })) ∷ []);
      });
    }) ∷
    (record {
      source = (record {
        place = (record { file = 1; line = 13 });
        text = (codes "b = v");
        form = (vb.assign (vb.word
            (codes "b") suffix.Absent) (vb.word (codes "v") suffix.Absent));
      });
      bindings = (record {
        exprs = ((bound.typed types.boolean
            (bound.variable (record { 0 = 1 }) false)) ∷ (bound.typed types.boolean (bound.convert types.boolean (bound.typed types.variant
            (bound.variable (record { 0 = 0 }) false)))) ∷ []);
        rules = (record { bits = 0 });
        mentions = ((mention.Var (record {
          0 = 1;
        })) ∷ (mention.Var (record { 0 = 0 })) ∷ []);
      });
    }) ∷
    (record {
      source = (record {
        place = (record { file = 1; line = 13 });
        text = (codes "y = v");
        form = (vb.assign (vb.word
            (codes "y") suffix.Absent) (vb.word (codes "v") suffix.Absent));
      });
      bindings = (record {
        exprs = ((bound.typed types.byte
            (bound.variable (record { 0 = 2 }) false)) ∷ (bound.typed types.byte (bound.convert types.byte (bound.typed types.variant
            (bound.variable (record { 0 = 0 }) false)))) ∷ []);
        rules = (record { bits = 0 });
        mentions = ((mention.Var (record {
          0 = 2;
        })) ∷ (mention.Var (record { 0 = 0 })) ∷ []);
      });
    }) ∷
    (record {
      source = (record {
        place = (record { file = 1; line = 13 });
        text = (codes "i = v");
        form = (vb.assign (vb.word
            (codes "i") suffix.Absent) (vb.word (codes "v") suffix.Absent));
      });
      bindings = (record {
        exprs = ((bound.typed types.integer
            (bound.variable (record { 0 = 3 }) false)) ∷ (bound.typed types.integer (bound.convert types.integer (bound.typed types.variant
            (bound.variable (record { 0 = 0 }) false)))) ∷ []);
        rules = (record { bits = 0 });
        mentions = ((mention.Var (record {
          0 = 3;
        })) ∷ (mention.Var (record { 0 = 0 })) ∷ []);
      });
    }) ∷
    (record {
      source = (record {
        place = (record { file = 1; line = 13 });
        text = (codes "n = v");
        form = (vb.assign (vb.word
            (codes "n") suffix.Absent) (vb.word (codes "v") suffix.Absent));
      });
      bindings = (record {
        exprs = ((bound.typed types.long
            (bound.variable (record { 0 = 4 }) false)) ∷ (bound.typed types.long (bound.convert types.long (bound.typed types.variant
            (bound.variable (record { 0 = 0 }) false)))) ∷ []);
        rules = (record { bits = 0 });
        mentions = ((mention.Var (record {
          0 = 4;
        })) ∷ (mention.Var (record { 0 = 0 })) ∷ []);
      });
    }) ∷
    (record {
      source = (record {
        place = (record { file = 1; line = 13 });
        text = (codes "c = v");
        form = (vb.assign (vb.word
            (codes "c") suffix.Absent) (vb.word (codes "v") suffix.Absent));
      });
      bindings = (record {
        exprs = ((bound.typed types.currency
            (bound.variable (record { 0 = 5 }) false)) ∷ (bound.typed types.currency (bound.convert types.currency (bound.typed types.variant
            (bound.variable (record { 0 = 0 }) false)))) ∷ []);
        rules = (record { bits = 0 });
        mentions = ((mention.Var (record {
          0 = 5;
        })) ∷ (mention.Var (record { 0 = 0 })) ∷ []);
      });
    }) ∷
    (record {
      source = (record {
        place = (record { file = 1; line = 13 });
        text = (codes "s = v");
        form = (vb.assign (vb.word
            (codes "s") suffix.Absent) (vb.word (codes "v") suffix.Absent));
      });
      bindings = (record {
        exprs = ((bound.typed types.str
            (bound.variable (record { 0 = 6 }) false)) ∷ (bound.typed types.str (bound.convert types.str (bound.typed types.variant
            (bound.variable (record { 0 = 0 }) false)))) ∷ []);
        rules = (record { bits = 0 });
        mentions = ((mention.Var (record {
          0 = 6;
        })) ∷ (mention.Var (record { 0 = 0 })) ∷ []);
      });
    }) ∷
    (record {
      source = (record {
        place = (record { file = 1; line = 14 });
        text = (codes "Debug.Print b; y; i; n; c; s");
        form = (vb.debug_print ((vb.word (codes "b") suffix.Absent) ∷ (vb.word (codes "y") suffix.Absent) ∷ (vb.word (codes "i")
            suffix.Absent) ∷ (vb.word (codes "n") suffix.Absent) ∷ (vb.word (codes "c") suffix.Absent) ∷ (vb.word (codes "s") suffix.Absent)
            ∷ []) false);
      });
      bindings = (record {
        exprs = ((bound.typed types.boolean (bound.variable (record { 0 = 1 }) false)) ∷
            (bound.typed types.byte (bound.variable (record { 0 = 2 }) false)) ∷ (bound.typed types.integer (bound.variable (record
            { 0 = 3 }) false)) ∷ (bound.typed types.long (bound.variable (record { 0 = 4 }) false)) ∷ (bound.typed types.currency
            (bound.variable (record { 0 = 5 }) false)) ∷ (bound.typed types.str (bound.variable (record { 0 = 6 }) false)) ∷ []);
        rules = (record { bits = 0 });
        mentions = ((mention.Var (record { 0 = 1 })) ∷ (mention.Var (record { 0 = 2 })) ∷ (mention.Var
            (record { 0 = 3 })) ∷ (mention.Var (record { 0 = 4 })) ∷ (mention.Var (record { 0 = 5 })) ∷ (mention.Var (record {
              0 =
                  6;
            })) ∷ []);
      });
    }) ∷
    (record {
      source = (record {
        place = (record { file = 1; line = 15 });
        text = (118 ∷ 32 ∷ 61 ∷ 32 ∷ 34 ∷ 120 ∷ 34 ∷ []);
        form = (vb.assign (vb.word (codes "v") suffix.Absent) (vb.lit (literal.Str (codes "x"))));
      });
      bindings = (record {
        exprs
            = ((bound.typed types.variant (bound.variable (record { 0 = 0 }) false)) ∷ (bound.typed types.variant (bound.convert types.variant
            (bound.typed types.str (bound.constant (value.Str (codes "x")) origin.Literal)))) ∷ []);
        rules = (record { bits = 0 });
        mentions = ((mention.Var (record { 0 = 0 })) ∷ []);
      });
    }) ∷
    (record {
      source = (record {
        place = (record { file = 1; line = 16 });
        text = (codes "s = v");
        form = (vb.assign (vb.word
            (codes "s") suffix.Absent) (vb.word (codes "v") suffix.Absent));
      });
      bindings = (record {
        exprs = ((bound.typed types.str
            (bound.variable (record { 0 = 6 }) false)) ∷ (bound.typed types.str (bound.convert types.str (bound.typed types.variant
            (bound.variable (record { 0 = 0 }) false)))) ∷ []);
        rules = (record { bits = 0 });
        mentions = ((mention.Var (record {
          0 = 6;
        })) ∷ (mention.Var (record { 0 = 0 })) ∷ []);
      });
    }) ∷
    (record {
      source = (record {
        place = (record { file = 1; line = 17 });
        text = (codes "Debug.Print s; v & 5");
        form = (vb.debug_print
            ((vb.word (codes "s") suffix.Absent) ∷ (vb.binary bin.Concat (vb.word (codes "v") suffix.Absent) (vb.lit (literal.Int
            (pos 5) false))) ∷ []) false);
      });
      bindings = (record {
        exprs = ((bound.typed types.str (bound.variable (record {
          0 = 6;
        }) false)) ∷ (bound.typed types.str (bound.binary bin.Concat (bound.typed types.str (bound.convert types.str (bound.typed
            types.variant (bound.variable (record { 0 = 0 }) false)))) (bound.typed types.str (bound.convert types.str (bound.typed
            types.integer (bound.constant (value.Int (pos 5)) origin.Literal)))))) ∷ []);
        rules = (record { bits = 0 });
        mentions
            = ((mention.Var (record { 0 = 6 })) ∷ (mention.Var (record { 0 = 0 })) ∷ []);
      });
    }) ∷ [])

abbrev pub bodies : List (List bound.Line)
bodies = body_0 ∷ []

abbrev pub program : bound.Program
program = record { declarations = declarations; bodies = bodies }

abbrev pub quiet : List (List Bool)
quiet = (([]) ∷ [])

abbrev pub lows : List (VarId × ℤ × ℤ)
lows = ([])

abbrev pub clean : List Bool
clean = (true ∷ [])

abbrev pub written : net.Project
written = (record {
  library = false;
  main = (Some (codes "Main1"));
  note = None;
  modules = ((record {
    name = (codes "Main1");
    class = false;
    members = (
        (net.proc (record {
          head = (net.sub net_visible.Public (codes "Main") ([]));
          prologue = (
              (net.local (record { name = (codes "v"); ty = net_types.object; value = None })) ∷
              (net.local (record { name = (codes "b"); ty = net_types.boolean; value = None })) ∷
              (net.local (record { name = (codes "y"); ty = net_types.byte; value = None })) ∷
              (net.local (record { name = (codes "i"); ty = net_types.short; value = None })) ∷
              (net.local (record { name = (codes "n"); ty = net_types.integer; value = None })) ∷
              (net.local (record { name = (codes "c"); ty = net_types.decimal; value = None })) ∷
              (net.local (record { name = (codes "s"); ty = net_types.str; value = None })) ∷ []);
          lines = (
              (net.call (net.path ((codes "UpgradeSupport") ∷ (codes "PrintLine") ∷ [])) (net.next_exp (net.binary net_bin.Concat (net.binary
              net_bin.Concat (net.binary net_bin.Concat (net.binary net_bin.Concat (net.binary net_bin.Concat (net.call_of (net.path
              ((codes "UpgradeSupport") ∷ (codes "PrintNum") ∷ [])) (net.next_exp (net.cast cast.CDec (net.call_of (net.path ((codes
              "UpgradeSupport") ∷ (codes "VarInt") ∷ [])) (net.next_exp (net.path ((codes "v") ∷ [])) net.no_exps))) net.no_exps)) (net.binary
              net_bin.Concat (net.call_of (net.path ((codes "UpgradeSupport") ∷ (codes "VarStr") ∷ [])) (net.next_exp (net.path ((codes
              "v") ∷ [])) net.no_exps)) (net.lit (net.str (codes "."))))) (net.cast cast.CStr (net.call_of (net.path ((codes "UpgradeSupport")
              ∷ (codes "VarBool") ∷ [])) (net.next_exp (net.path ((codes "v") ∷ [])) net.no_exps)))) (net.call_of (net.path ((codes
              "UpgradeSupport") ∷ (codes "PrintNum") ∷ [])) (net.next_exp (net.call_of (net.path ((codes "UpgradeSupport") ∷ (codes
              "VarCur") ∷ [])) (net.next_exp (net.path ((codes "v") ∷ [])) net.no_exps)) net.no_exps))) (net.call_of (net.path ((codes
              "UpgradeSupport") ∷ (codes "PrintNum") ∷ [])) (net.next_exp (net.cast cast.CDec (net.call_of (net.path ((codes "UpgradeSupport")
              ∷ (codes "VarByte") ∷ [])) (net.next_exp (net.path ((codes "v") ∷ [])) net.no_exps))) net.no_exps))) (net.call_of (net.path
              ((codes "UpgradeSupport") ∷ (codes "PrintNum") ∷ [])) (net.next_exp (net.cast cast.CDec (net.call_of (net.path ((codes
              "UpgradeSupport") ∷ (codes "VarShort") ∷ [])) (net.next_exp (net.path ((codes "v") ∷ [])) net.no_exps))) net.no_exps)))
              net.no_exps)) ∷
              (net.assign (net.path ((codes "n") ∷ [])) (net.call_of (net.path ((codes "UpgradeSupport") ∷ (codes "VarInt") ∷ [])) (net.next_exp
              (net.path ((codes "v") ∷ [])) net.no_exps))) ∷
              (net.assign (net.path ((codes "s") ∷ [])) (net.call_of (net.path ((codes "UpgradeSupport") ∷ (codes "VarStr") ∷ [])) (net.next_exp
              (net.path ((codes "v") ∷ [])) net.no_exps))) ∷
              (net.assign (net.path ((codes "v") ∷ [])) (net.cast cast.CObj (net.lit (net.short (pos 5) false)))) ∷
              (net.assign (net.path ((codes "b") ∷ [])) (net.call_of (net.path ((codes "UpgradeSupport") ∷ (codes "VarBool") ∷ []))
              (net.next_exp (net.path ((codes "v") ∷ [])) net.no_exps))) ∷
              (net.assign (net.path ((codes "y") ∷ [])) (net.call_of (net.path ((codes "UpgradeSupport") ∷ (codes "VarByte") ∷ []))
              (net.next_exp (net.path ((codes "v") ∷ [])) net.no_exps))) ∷
              (net.assign (net.path ((codes "i") ∷ [])) (net.call_of (net.path ((codes "UpgradeSupport") ∷ (codes "VarShort") ∷ []))
              (net.next_exp (net.path ((codes "v") ∷ [])) net.no_exps))) ∷
              (net.assign (net.path ((codes "n") ∷ [])) (net.call_of (net.path ((codes "UpgradeSupport") ∷ (codes "VarInt") ∷ [])) (net.next_exp
              (net.path ((codes "v") ∷ [])) net.no_exps))) ∷
              (net.assign (net.path ((codes "c") ∷ [])) (net.call_of (net.path ((codes "UpgradeSupport") ∷ (codes "VarCur") ∷ [])) (net.next_exp
              (net.path ((codes "v") ∷ [])) net.no_exps))) ∷
              (net.assign (net.path ((codes "s") ∷ [])) (net.call_of (net.path ((codes "UpgradeSupport") ∷ (codes "VarStr") ∷ [])) (net.next_exp
              (net.path ((codes "v") ∷ [])) net.no_exps))) ∷
              (net.call (net.path ((codes "UpgradeSupport") ∷ (codes "PrintLine") ∷ [])) (net.next_exp (net.binary net_bin.Concat (net.binary
              net_bin.Concat (net.binary net_bin.Concat (net.binary net_bin.Concat (net.binary net_bin.Concat (net.cast cast.CStr (net.path
              ((codes "b") ∷ []))) (net.call_of (net.path ((codes "UpgradeSupport") ∷ (codes "PrintNum") ∷ [])) (net.next_exp (net.cast
              cast.CDec (net.path ((codes "y") ∷ []))) net.no_exps))) (net.call_of (net.path ((codes "UpgradeSupport") ∷ (codes "PrintNum")
              ∷ [])) (net.next_exp (net.cast cast.CDec (net.path ((codes "i") ∷ []))) net.no_exps))) (net.call_of (net.path ((codes
              "UpgradeSupport") ∷ (codes "PrintNum") ∷ [])) (net.next_exp (net.cast cast.CDec (net.path ((codes "n") ∷ []))) net.no_exps)))
              (net.call_of (net.path ((codes "UpgradeSupport") ∷ (codes "PrintNum") ∷ [])) (net.next_exp (net.path ((codes "c") ∷ []))
              net.no_exps))) (net.path ((codes "s") ∷ []))) net.no_exps)) ∷
              (net.assign (net.path ((codes "v") ∷ [])) (net.cast cast.CObj (net.lit (net.boolean true)))) ∷
              (net.assign (net.path ((codes "b") ∷ [])) (net.call_of (net.path ((codes "UpgradeSupport") ∷ (codes "VarBool") ∷ []))
              (net.next_exp (net.path ((codes "v") ∷ [])) net.no_exps))) ∷
              (net.assign (net.path ((codes "y") ∷ [])) (net.call_of (net.path ((codes "UpgradeSupport") ∷ (codes "VarByte") ∷ []))
              (net.next_exp (net.path ((codes "v") ∷ [])) net.no_exps))) ∷
              (net.assign (net.path ((codes "i") ∷ [])) (net.call_of (net.path ((codes "UpgradeSupport") ∷ (codes "VarShort") ∷ []))
              (net.next_exp (net.path ((codes "v") ∷ [])) net.no_exps))) ∷
              (net.assign (net.path ((codes "n") ∷ [])) (net.call_of (net.path ((codes "UpgradeSupport") ∷ (codes "VarInt") ∷ [])) (net.next_exp
              (net.path ((codes "v") ∷ [])) net.no_exps))) ∷
              (net.assign (net.path ((codes "c") ∷ [])) (net.call_of (net.path ((codes "UpgradeSupport") ∷ (codes "VarCur") ∷ [])) (net.next_exp
              (net.path ((codes "v") ∷ [])) net.no_exps))) ∷
              (net.assign (net.path ((codes "s") ∷ [])) (net.call_of (net.path ((codes "UpgradeSupport") ∷ (codes "VarStr") ∷ [])) (net.next_exp
              (net.path ((codes "v") ∷ [])) net.no_exps))) ∷
              (net.call (net.path ((codes "UpgradeSupport") ∷ (codes "PrintLine") ∷ [])) (net.next_exp (net.binary net_bin.Concat (net.binary
              net_bin.Concat (net.binary net_bin.Concat (net.binary net_bin.Concat (net.binary net_bin.Concat (net.cast cast.CStr (net.path
              ((codes "b") ∷ []))) (net.call_of (net.path ((codes "UpgradeSupport") ∷ (codes "PrintNum") ∷ [])) (net.next_exp (net.cast
              cast.CDec (net.path ((codes "y") ∷ []))) net.no_exps))) (net.call_of (net.path ((codes "UpgradeSupport") ∷ (codes "PrintNum")
              ∷ [])) (net.next_exp (net.cast cast.CDec (net.path ((codes "i") ∷ []))) net.no_exps))) (net.call_of (net.path ((codes
              "UpgradeSupport") ∷ (codes "PrintNum") ∷ [])) (net.next_exp (net.cast cast.CDec (net.path ((codes "n") ∷ []))) net.no_exps)))
              (net.call_of (net.path ((codes "UpgradeSupport") ∷ (codes "PrintNum") ∷ [])) (net.next_exp (net.path ((codes "c") ∷ []))
              net.no_exps))) (net.path ((codes "s") ∷ []))) net.no_exps)) ∷
              (net.assign (net.path ((codes "v") ∷ [])) (net.cast cast.CObj (net.lit (net.decimal (pos 25000))))) ∷
              (net.assign (net.path ((codes "b") ∷ [])) (net.call_of (net.path ((codes "UpgradeSupport") ∷ (codes "VarBool") ∷ []))
              (net.next_exp (net.path ((codes "v") ∷ [])) net.no_exps))) ∷
              (net.assign (net.path ((codes "y") ∷ [])) (net.call_of (net.path ((codes "UpgradeSupport") ∷ (codes "VarByte") ∷ []))
              (net.next_exp (net.path ((codes "v") ∷ [])) net.no_exps))) ∷
              (net.assign (net.path ((codes "i") ∷ [])) (net.call_of (net.path ((codes "UpgradeSupport") ∷ (codes "VarShort") ∷ []))
              (net.next_exp (net.path ((codes "v") ∷ [])) net.no_exps))) ∷
              (net.assign (net.path ((codes "n") ∷ [])) (net.call_of (net.path ((codes "UpgradeSupport") ∷ (codes "VarInt") ∷ [])) (net.next_exp
              (net.path ((codes "v") ∷ [])) net.no_exps))) ∷
              (net.assign (net.path ((codes "c") ∷ [])) (net.call_of (net.path ((codes "UpgradeSupport") ∷ (codes "VarCur") ∷ [])) (net.next_exp
              (net.path ((codes "v") ∷ [])) net.no_exps))) ∷
              (net.assign (net.path ((codes "s") ∷ [])) (net.call_of (net.path ((codes "UpgradeSupport") ∷ (codes "VarStr") ∷ [])) (net.next_exp
              (net.path ((codes "v") ∷ [])) net.no_exps))) ∷
              (net.call (net.path ((codes "UpgradeSupport") ∷ (codes "PrintLine") ∷ [])) (net.next_exp (net.binary net_bin.Concat (net.binary
              net_bin.Concat (net.binary net_bin.Concat (net.binary net_bin.Concat (net.binary net_bin.Concat (net.cast cast.CStr (net.path
              ((codes "b") ∷ []))) (net.call_of (net.path ((codes "UpgradeSupport") ∷ (codes "PrintNum") ∷ [])) (net.next_exp (net.cast
              cast.CDec (net.path ((codes "y") ∷ []))) net.no_exps))) (net.call_of (net.path ((codes "UpgradeSupport") ∷ (codes "PrintNum")
              ∷ [])) (net.next_exp (net.cast cast.CDec (net.path ((codes "i") ∷ []))) net.no_exps))) (net.call_of (net.path ((codes
              "UpgradeSupport") ∷ (codes "PrintNum") ∷ [])) (net.next_exp (net.cast cast.CDec (net.path ((codes "n") ∷ []))) net.no_exps)))
              (net.call_of (net.path ((codes "UpgradeSupport") ∷ (codes "PrintNum") ∷ [])) (net.next_exp (net.path ((codes "c") ∷ []))
              net.no_exps))) (net.path ((codes "s") ∷ []))) net.no_exps)) ∷
              (net.assign (net.path ((codes "v") ∷ [])) (net.cast cast.CObj (net.binary net_bin.Concat (net.lit (net.str [])) (net.lit
              (net.str (codes "x")))))) ∷
              (net.assign (net.path ((codes "s") ∷ [])) (net.call_of (net.path ((codes "UpgradeSupport") ∷ (codes "VarStr") ∷ [])) (net.next_exp
              (net.path ((codes "v") ∷ [])) net.no_exps))) ∷
              (net.call (net.path ((codes "UpgradeSupport") ∷ (codes "PrintLine") ∷ [])) (net.next_exp (net.binary net_bin.Concat (net.path
              ((codes "s") ∷ [])) (net.binary net_bin.Concat (net.call_of (net.path ((codes "UpgradeSupport") ∷ (codes "VarStr") ∷ []))
              (net.next_exp (net.path ((codes "v") ∷ [])) net.no_exps)) (net.cast cast.CStr (net.lit (net.short (pos 5) false))))) net.no_exps))
              ∷ []);
          close = close.EndSub;
        })) ∷ []);
  }) ∷ []);
  support = (record {
    name = (codes "UpgradeSupport");
    class = false;
    members
        = (
        (net.proc (record {
          head = (net.sub net_visible.Public (codes "PrintLine") ((record {
            passing = net_passing.Value;
            name
                = (codes "s");
            ty = net_types.str;
          }) ∷ []));
          prologue = ([]);
          lines = (
              (net.call (net.path ((codes "System") ∷ (codes "Console") ∷ (codes "WriteLine") ∷ [])) (net.next_exp (net.path ((codes
              "s") ∷ [])) net.no_exps)) ∷ []);
          close = close.EndSub;
        })) ∷
        (net.proc (record {
          head = (net.function net_visible.Public (codes "CurText") ((record {
            passing = net_passing.Value;
            name = (codes "d");
            ty = net_types.decimal;
          }) ∷ []) net_types.str);
          prologue = ([]);
          lines = (
              (net.assign (net.path ((codes "CurText") ∷ [])) (net.call_of (net.path ((codes "d") ∷ (codes "ToString") ∷ [])) (net.next_exp
              (net.lit (net.str (codes "0.####"))) (net.next_exp (net.path ((codes "System") ∷ (codes "Globalization") ∷ (codes "CultureInfo")
              ∷ (codes "InvariantCulture") ∷ [])) net.no_exps)))) ∷ []);
          close = close.EndFunction;
        })) ∷
        (net.proc (record {
          head = (net.function net_visible.Public (codes "PrintNum") ((record {
            passing = net_passing.Value;
            name = (codes "d");
            ty = net_types.decimal;
          }) ∷ []) net_types.str);
          prologue = ([]);
          lines = (
              (net.if_head (net.binary net_bin.Less (net.path ((codes "d") ∷ [])) (net.lit (net.decimal (pos 0))))) ∷
              (net.assign (net.path ((codes "PrintNum") ∷ [])) (net.binary net_bin.Concat (net.call_of (net.path ((codes "CurText")
              ∷ [])) (net.next_exp (net.path ((codes "d") ∷ [])) net.no_exps)) (net.lit (net.str (codes " "))))) ∷
              net.else_line ∷
              (net.assign (net.path ((codes "PrintNum") ∷ [])) (net.binary net_bin.Concat (net.binary net_bin.Concat (net.lit (net.str
              (codes " "))) (net.call_of (net.path ((codes "CurText") ∷ [])) (net.next_exp (net.path ((codes "d") ∷ [])) net.no_exps)))
              (net.lit (net.str (codes " "))))) ∷
              net.end_if ∷ []);
          close = close.EndFunction;
        })) ∷
        (net.proc (record {
          head = (net.function net_visible.Public (codes "Cur") ((record {
            passing = net_passing.Value;
            name
                = (codes "d");
            ty = net_types.decimal;
          }) ∷ []) net_types.decimal);
          prologue = ([]);
          lines = (
              (net.if_head (net.binary net_bin.Or (net.binary net_bin.Less (net.path ((codes "d") ∷ [])) (net.unary net_un.Neg (net.lit
              (net.decimal (pos 9223372036854775808))))) (net.binary net_bin.Greater (net.path ((codes "d") ∷ [])) (net.lit (net.decimal
              (pos 9223372036854775807)))))) ∷
              (net.call (net.path ((codes "Raise") ∷ [])) (net.next_exp (net.lit (net.integer (pos 6) false)) net.no_exps)) ∷
              net.end_if ∷
              (net.assign (net.path ((codes "Cur") ∷ [])) (net.path ((codes "d") ∷ []))) ∷ []);
          close = close.EndFunction;
        })) ∷
        (net.proc (record {
          head = (net.sub net_visible.Public (codes "Raise") ((record {
            passing = net_passing.Value;
            name =
                (codes "n");
            ty = net_types.integer;
          }) ∷ []));
          prologue = ([]);
          lines = (
              (net.call (net.dot (net.call_of (net.path ((codes "Microsoft") ∷ (codes "VisualBasic") ∷ (codes "Information") ∷ (codes
              "Err") ∷ [])) net.no_exps) (codes "Raise")) (net.next_exp (net.path ((codes "n") ∷ [])) net.no_exps)) ∷ []);
          close = close.EndSub;
        })) ∷
        (net.proc (record {
          head = (net.function net_visible.Public (codes "Rank") ((record {
            passing = net_passing.Value;
            name
                = (codes "v");
            ty = net_types.object;
          }) ∷ []) net_types.integer);
          prologue = ([]);
          lines = (
              (net.if_head (net.type_of (net.path ((codes "v") ∷ [])) net_types.str)) ∷
              (net.assign (net.path ((codes "Rank") ∷ [])) (net.lit (net.integer (pos 6) false))) ∷
              (net.else_if (net.type_of (net.path ((codes "v") ∷ [])) net_types.decimal)) ∷
              (net.assign (net.path ((codes "Rank") ∷ [])) (net.lit (net.integer (pos 5) false))) ∷
              (net.else_if (net.type_of (net.path ((codes "v") ∷ [])) net_types.integer)) ∷
              (net.assign (net.path ((codes "Rank") ∷ [])) (net.lit (net.integer (pos 4) false))) ∷
              (net.else_if (net.type_of (net.path ((codes "v") ∷ [])) net_types.byte)) ∷
              (net.assign (net.path ((codes "Rank") ∷ [])) (net.lit (net.integer (pos 2) false))) ∷
              net.else_line ∷
              (net.assign (net.path ((codes "Rank") ∷ [])) (net.lit (net.integer (pos 3) false))) ∷
              net.end_if ∷ []);
          close = close.EndFunction;
        })) ∷
        (net.proc (record {
          head = (net.function net_visible.Public (codes "Num") ((record {
            passing = net_passing.Value;
            name
                = (codes "v");
            ty = net_types.object;
          }) ∷ []) net_types.decimal);
          prologue = ([]);
          lines = (
              (net.if_head (net.binary net_bin.Equal (net.call_of (net.path ((codes "Rank") ∷ [])) (net.next_exp (net.path ((codes "v")
              ∷ [])) net.no_exps)) (net.lit (net.integer (pos 6) false)))) ∷
              (net.call (net.path ((codes "Raise") ∷ [])) (net.next_exp (net.lit (net.integer (pos 13) false)) net.no_exps)) ∷
              net.end_if ∷
              (net.assign (net.path ((codes "Num") ∷ [])) (net.cast cast.CDec (net.path ((codes "v") ∷ [])))) ∷ []);
          close = close.EndFunction;
        })) ∷
        (net.proc (record {
          head = (net.function net_visible.Public (codes "VarStr") ((record {
            passing = net_passing.Value;
            name
                = (codes "v");
            ty = net_types.object;
          }) ∷ []) net_types.str);
          prologue = ([]);
          lines = (
              (net.if_head (net.type_of (net.path ((codes "v") ∷ [])) net_types.decimal)) ∷
              (net.assign (net.path ((codes "VarStr") ∷ [])) (net.call_of (net.path ((codes "CurText") ∷ [])) (net.next_exp (net.cast
              cast.CDec (net.path ((codes "v") ∷ []))) net.no_exps))) ∷
              net.else_line ∷
              (net.assign (net.path ((codes "VarStr") ∷ [])) (net.cast cast.CStr (net.path ((codes "v") ∷ [])))) ∷
              net.end_if ∷ []);
          close = close.EndFunction;
        })) ∷
        (net.proc (record {
          head = (net.function net_visible.Public (codes "VarByte") ((record {
            passing = net_passing.Value;
            name = (codes "v");
            ty = net_types.object;
          }) ∷ []) net_types.byte);
          prologue = ([]);
          lines = (
              (net.if_head (net.type_of (net.path ((codes "v") ∷ [])) net_types.boolean)) ∷
              (net.assign (net.path ((codes "VarByte") ∷ [])) (net.cast cast.CByte (net.cast cast.CBool (net.path ((codes "v") ∷ [])))))
              ∷
              net.else_line ∷
              (net.assign (net.path ((codes "VarByte") ∷ [])) (net.cast cast.CByte (net.call_of (net.path ((codes "Num") ∷ [])) (net.next_exp
              (net.path ((codes "v") ∷ [])) net.no_exps)))) ∷
              net.end_if ∷ []);
          close = close.EndFunction;
        })) ∷
        (net.proc (record {
          head = (net.function net_visible.Public (codes "VarShort") ((record {
            passing = net_passing.Value;
            name = (codes "v");
            ty = net_types.object;
          }) ∷ []) net_types.short);
          prologue = ([]);
          lines = (
              (net.assign (net.path ((codes "VarShort") ∷ [])) (net.cast cast.CShort (net.call_of (net.path ((codes "Num") ∷ [])) (net.next_exp
              (net.path ((codes "v") ∷ [])) net.no_exps)))) ∷ []);
          close = close.EndFunction;
        })) ∷
        (net.proc (record {
          head = (net.function net_visible.Public (codes "VarInt") ((record {
            passing = net_passing.Value;
            name
                = (codes "v");
            ty = net_types.object;
          }) ∷ []) net_types.integer);
          prologue = ([]);
          lines = (
              (net.assign (net.path ((codes "VarInt") ∷ [])) (net.cast cast.CInt (net.call_of (net.path ((codes "Num") ∷ [])) (net.next_exp
              (net.path ((codes "v") ∷ [])) net.no_exps)))) ∷ []);
          close = close.EndFunction;
        })) ∷
        (net.proc (record {
          head = (net.function net_visible.Public (codes "VarBool") ((record {
            passing = net_passing.Value;
            name = (codes "v");
            ty = net_types.object;
          }) ∷ []) net_types.boolean);
          prologue = ([]);
          lines = (
              (net.assign (net.path ((codes "VarBool") ∷ [])) (net.cast cast.CBool (net.call_of (net.path ((codes "Num") ∷ [])) (net.next_exp
              (net.path ((codes "v") ∷ [])) net.no_exps)))) ∷ []);
          close = close.EndFunction;
        })) ∷
        (net.proc (record {
          head = (net.function net_visible.Public (codes "VarCur") ((record {
            passing = net_passing.Value;
            name
                = (codes "v");
            ty = net_types.object;
          }) ∷ []) net_types.decimal);
          prologue = ([]);
          lines = (
              (net.assign (net.path ((codes "VarCur") ∷ [])) (net.call_of (net.path ((codes "Cur") ∷ [])) (net.next_exp (net.call_of
              (net.path ((codes "Num") ∷ [])) (net.next_exp (net.path ((codes "v") ∷ [])) net.no_exps)) net.no_exps))) ∷ []);
          close
              = close.EndFunction;
        })) ∷ []);
  });
})

abbrev pub runnable : Runnable
runnable = runnable_of program quiet lows

said : ran runnable 0 2000 ≡ (
  line (codes " 0 .False 0  0  0 ")
      ++ line (codes "True 5  5  5  5 5")
      ++ line (codes "True 255 -1 -1 -1 True")
      ++ line (codes "True 2  2  2  2.5 2.5")
      ++ line (codes "xx5"),
  ended,
)
unfolding digits
said = refl

said_written : ran_written written 0 2000 ≡ (
  line (codes " 0 .False 0  0  0 ")
      ++ line (codes "True 5  5  5  5 5")
      ++ line (codes "True 255 -1 -1 -1 True")
      ++ line (codes "True 2  2  2  2.5 2.5")
      ++ line (codes "xx5"),
  ended,
)
unfolding digits
said_written = refl
