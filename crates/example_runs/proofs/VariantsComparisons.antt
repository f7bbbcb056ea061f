-- The program variants-comparisons, what it puts out and how it ends.
use Rattle.std.proofs.Common.{◌≡◌, refl, ◌++◌, List, ℤ, pos, Bool, true, false, [], ◌∷◌, codes, Some, None}
use Rattle.vb_tree.specs.declared.declared.VarId.{VarId}
use Rattle.bound_tree.specs.Tree as bound
use Rattle.net_tree.specs.Tree as net
use Rattle.net_tree.specs.Types as net_types
use Rattle.vb_tree.specs.BoundTree as types
use Rattle.vb_tree.specs.Tree as vb
use Rattle.vb_tree.specs.declared.expression.BinOp.TheVariants as bin
use Rattle.net_tree.specs.declared.expression.CastWord.TheVariants as cast
use Rattle.net_tree.specs.declared.declaration.NetClose.TheVariants as close
use Rattle.vb_tree.specs.declared.declared.ProcKind.TheVariants as kind
use Rattle.vb_tree.specs.declared.bound.LibCall.TheVariants as lib
use Rattle.vb_tree.specs.declared.token.Literal6.TheVariants as literal
use Rattle.bound_tree.specs.declared.body.Mention.TheVariants as mention
use Rattle.bound_tree.specs.declared.declared.Named.TheVariants as named
use Rattle.net_tree.specs.declared.expression.NetBin.TheVariants as net_bin
use Rattle.net_tree.specs.declared.declaration.NetPassing.TheVariants as net_passing
use Rattle.net_tree.specs.declared.expression.NetUn.TheVariants as net_un
use Rattle.net_tree.specs.declared.declaration.NetVisibility.TheVariants as net_visible
use Rattle.bound_tree.specs.declared.expression.Origin.TheVariants as origin
use Rattle.vb_tree.specs.declared.declared.Owner.TheVariants as owner
use Rattle.vb_tree.specs.declared.project.ProjectKind.TheVariants as project_kind
use Rattle.bound_tree.specs.declared.declared.Scope.TheVariants as scope
use Rattle.vb_tree.specs.declared.token.Suffix.TheVariants as suffix
use Rattle.vb_tree.specs.declared.expression.UnOp.TheVariants as un
use Rattle.vb_tree.specs.declared.value.Value6.TheVariants as value
use Rattle.vb_tree.specs.declared.form_parts.VarWord.TheVariants as var
use Rattle.vb_tree.specs.declared.form_parts.Visibility.TheVariants as visible
use Rattle.std.specs.Fmt.{digits}
use Rattle.example_runs.proofs.Said.{ended, line, ran, runnable_of}
use Rattle.vb6_run.specs.Runnables.{Runnable}

abbrev pub project : vb.Project
project = (record {
  file = (record {
    kind = project_kind.Exe;
    startup = (Some (3, (codes "Sub Main")));
    entries = ((record
        { line = 2; class = false; name = (codes "Main1"); file = (codes "Main1.bas") }) ∷ []);
    dropped = ([]);
  });
  modules = ((record {
    file = 1;
    name = (codes "Main1");
    class = false;
    members = (
        (vb.proc (record {
          place = (record { file = 1; line = 1 });
          text = (codes "Sub Main()");
          form = (vb.sub_head (record {
            visibility = None;
            name = (codes "Main");
            suffix = suffix.Absent;
            params = ([]);
          }));
        }) (vb.next_node
        (vb.line (record {
          place = (record { file = 1; line = 2 });
          text = (codes "Dim v As Variant, w As Variant");
          form =
              (vb.variables var.Dim ((record {
                name = (codes "v");
                suffix = suffix.Absent;
                bounds = None;
                auto = false;
                ty = (Some (vb.named
                    (codes "Variant")));
              }) ∷ (record {
                name = (codes "w");
                suffix = suffix.Absent;
                bounds = None;
                auto = false;
                ty = (Some
                    (vb.named (codes "Variant")));
              }) ∷ []));
        })) (vb.next_node
        (vb.line (record {
          place = (record { file = 1; line = 3 });
          text = (codes "v = 5");
          form = (vb.assign (vb.word (codes
              "v") suffix.Absent) (vb.lit (literal.Int (pos 5) false)));
        })) (vb.next_node
        (vb.line (record {
          place = (record { file = 1; line = 4 });
          text = (codes "w = 5.5@");
          form = (vb.assign (vb.word (codes
              "w") suffix.Absent) (vb.lit (literal.Cur (pos 55000))));
        })) (vb.next_node
        (vb.line (record {
          place = (record { file = 1; line = 5 });
          text = (codes "Debug.Print v < w; v = w; v > w; v = 5; 6 > v");
          form = (vb.debug_print ((vb.binary bin.Less (vb.word (codes "v") suffix.Absent) (vb.word (codes "w") suffix.Absent)) ∷
              (vb.binary bin.Equal (vb.word (codes "v") suffix.Absent) (vb.word (codes "w") suffix.Absent)) ∷ (vb.binary bin.Greater
              (vb.word (codes "v") suffix.Absent) (vb.word (codes "w") suffix.Absent)) ∷ (vb.binary bin.Equal (vb.word (codes "v") suffix.Absent)
              (vb.lit (literal.Int (pos 5) false))) ∷ (vb.binary bin.Greater (vb.lit (literal.Int (pos 6) false)) (vb.word (codes "v")
              suffix.Absent)) ∷ []) false);
        })) (vb.next_node
        (vb.line (record {
          place = (record { file = 1; line = 6 });
          text = (118 ∷ 32 ∷ 61 ∷ 32 ∷ 34 ∷ 97 ∷ 34 ∷ []);
          form =
              (vb.assign (vb.word (codes "v") suffix.Absent) (vb.lit (literal.Str (codes "a"))));
        })) (vb.next_node
        (vb.line (record {
          place = (record { file = 1; line = 7 });
          text = (119 ∷ 32 ∷ 61 ∷ 32 ∷ 34 ∷ 98 ∷ 34 ∷ []);
          form =
              (vb.assign (vb.word (codes "w") suffix.Absent) (vb.lit (literal.Str (codes "b"))));
        })) (vb.next_node
        (vb.line (record {
          place = (record { file = 1; line = 8 });
          text = (codes "Debug.Print v < w; v & w; v + w");
          form =
              (vb.debug_print ((vb.binary bin.Less (vb.word (codes "v") suffix.Absent) (vb.word (codes "w") suffix.Absent)) ∷ (vb.binary
              bin.Concat (vb.word (codes "v") suffix.Absent) (vb.word (codes "w") suffix.Absent)) ∷ (vb.binary bin.Add (vb.word (codes
              "v") suffix.Absent) (vb.word (codes "w") suffix.Absent)) ∷ []) false);
        })) (vb.next_node
        (vb.line (record {
          place = (record { file = 1; line = 9 });
          text = (codes "v = Empty");
          form = (vb.assign (vb.word (codes
              "v") suffix.Absent) (vb.word (codes "Empty") suffix.Absent));
        })) (vb.next_node
        (vb.line (record {
          place = (record { file = 1; line = 10 });
          text = (68 ∷ 101 ∷ 98 ∷ 117 ∷ 103 ∷ 46 ∷ 80 ∷ 114 ∷ 105
              ∷ 110 ∷ 116 ∷ 32 ∷ 118 ∷ 32 ∷ 61 ∷ 32 ∷ 48 ∷ 59 ∷ 32 ∷ 118 ∷ 32 ∷ 61 ∷ 32 ∷ 34 ∷ 34 ∷ 59 ∷ 32 ∷ 73 ∷ 115 ∷ 69 ∷ 109 ∷
              112 ∷ 116 ∷ 121 ∷ 40 ∷ 118 ∷ 41 ∷ []);
          form = (vb.debug_print ((vb.binary bin.Equal (vb.word (codes "v") suffix.Absent)
              (vb.lit (literal.Int (pos 0) false))) ∷ (vb.binary bin.Equal (vb.word (codes "v") suffix.Absent) (vb.lit (literal.Str
              []))) ∷ (vb.index (vb.word (codes "IsEmpty") suffix.Absent) (vb.next_arg None false (vb.given (vb.word (codes "v") suffix.Absent))
              vb.no_args)) ∷ []) false);
        })) (vb.next_node
        (vb.line (record {
          place = (record { file = 1; line = 11 });
          text = (codes "v = True");
          form = (vb.assign (vb.word (codes
              "v") suffix.Absent) (vb.word (codes "True") suffix.Absent));
        })) (vb.next_node
        (vb.line (record {
          place = (record { file = 1; line = 12 });
          text = (codes "Debug.Print v = -1; v = True");
          form = (vb.debug_print
              ((vb.binary bin.Equal (vb.word (codes "v") suffix.Absent) (vb.unary un.Neg (vb.lit (literal.Int (pos 1) false)))) ∷ (vb.binary
              bin.Equal (vb.word (codes "v") suffix.Absent) (vb.word (codes "True") suffix.Absent)) ∷ []) false);
        })) vb.no_nodes)))))))))))
        (record { place = (record { file = 1; line = 13 }); text = (codes "End Sub"); form = vb.end_sub })) ∷ []);
    comments =
        ([]);
  }) ∷ []);
})

abbrev pub declarations : bound.Declarations
declarations = (record {
  project = project;
  names = (
      (record { name = (codes "Main"); scope = (scope.Public 1); named = (named.Proc (record { 0 = 0 })) }) ∷
      (record { name = (codes "v"); scope = (scope.Local (record { 0 = 0 })); named = (named.Var (record { 0 = 0 })) }) ∷
      (record { name = (codes "w"); scope = (scope.Local (record { 0 = 0 })); named = (named.Var (record { 0 = 1 })) }) ∷ []);
  vars = (
      (record {
        name = (codes "v");
        place = (record { file = 1; line = 2 });
        statement = 1;
        owner = (owner.Local (record {
          0
              = 0;
        }));
        ty = types.variant;
        named = types.variant;
        qualified = false;
        lettered = None;
        bounds = ([]);
        auto = false;
        preset
            = None;
      }) ∷
      (record {
        name = (codes "w");
        place = (record { file = 1; line = 2 });
        statement = 1;
        owner = (owner.Local (record {
          0
              = 0;
        }));
        ty = types.variant;
        named = types.variant;
        qualified = false;
        lettered = None;
        bounds = ([]);
        auto = false;
        preset
            = None;
      }) ∷ []);
  consts = ([]);
  procs = (
      (record {
        name = (codes "Main");
        place = (record { file = 1; line = 1 });
        module_number = 1;
        kind = kind.Sub;
        visibility
            = visible.Public;
        params = ([]);
        result = types.nothing;
        answer = None;
        first = (record { 0 = 0 });
      }) ∷ []);
  types = ([]);
  enums = ([]);
  defaults = ([]);
})

abbrev pub body_0 : List bound.Line
body_0 = (
    (record {
      source = (record {
        place = (record { file = 1; line = 3 });
        text = (codes "v = 5");
        form = (vb.assign (vb.word
            (codes "v") suffix.Absent) (vb.lit (literal.Int (pos 5) false)));
      });
      bindings = (record {
        exprs = ((bound.typed types.variant
            (bound.variable (record { 0 = 0 }) false)) ∷ (bound.typed types.variant (bound.convert types.variant (bound.typed types.integer
            (bound.constant (value.Int (pos 5)) origin.Literal)))) ∷ []);
        rules = (record { bits = 0 });
        mentions = ((mention.Var
            (record { 0 = 0 })) ∷ []);
      });
    }) ∷
    (record {
      source = (record {
        place = (record { file = 1; line = 4 });
        text = (codes "w = 5.5@");
        form = (vb.assign (vb.word
            (codes "w") suffix.Absent) (vb.lit (literal.Cur (pos 55000))));
      });
      bindings = (record {
        exprs = ((bound.typed types.variant
            (bound.variable (record { 0 = 1 }) false)) ∷ (bound.typed types.variant (bound.convert types.variant (bound.typed types.currency
            (bound.constant (value.Cur (pos 55000)) origin.Literal)))) ∷ []);
        rules = (record { bits = 0 });
        mentions = ((mention.Var
            (record { 0 = 1 })) ∷ []);
      });
    }) ∷
    (record {
      source = (record {
        place = (record { file = 1; line = 5 });
        text = (codes "Debug.Print v < w; v = w; v > w; v = 5; 6 > v");
        form = (vb.debug_print ((vb.binary bin.Less (vb.word (codes "v") suffix.Absent) (vb.word (codes "w") suffix.Absent)) ∷
            (vb.binary bin.Equal (vb.word (codes "v") suffix.Absent) (vb.word (codes "w") suffix.Absent)) ∷ (vb.binary bin.Greater
            (vb.word (codes "v") suffix.Absent) (vb.word (codes "w") suffix.Absent)) ∷ (vb.binary bin.Equal (vb.word (codes "v") suffix.Absent)
            (vb.lit (literal.Int (pos 5) false))) ∷ (vb.binary bin.Greater (vb.lit (literal.Int (pos 6) false)) (vb.word (codes "v")
            suffix.Absent)) ∷ []) false);
      });
      bindings = (record {
        exprs = ((bound.typed types.boolean (bound.binary bin.Less (bound.typed
            types.variant (bound.variable (record { 0 = 0 }) false)) (bound.typed types.variant (bound.variable (record { 0 = 1 })
            false)))) ∷ (bound.typed types.boolean (bound.binary bin.Equal (bound.typed types.variant (bound.variable (record {
              0
                  = 0;
            }) false)) (bound.typed types.variant (bound.variable (record { 0 = 1 }) false)))) ∷ (bound.typed types.boolean (bound.binary
            bin.Greater (bound.typed types.variant (bound.variable (record { 0 = 0 }) false)) (bound.typed types.variant (bound.variable
            (record { 0 = 1 }) false)))) ∷ (bound.typed types.boolean (bound.binary bin.Equal (bound.typed types.variant (bound.variable
            (record { 0 = 0 }) false)) (bound.typed types.variant (bound.convert types.variant (bound.typed types.integer (bound.constant
            (value.Int (pos 5)) origin.Literal)))))) ∷ (bound.typed types.boolean (bound.binary bin.Greater (bound.typed types.variant
            (bound.convert types.variant (bound.typed types.integer (bound.constant (value.Int (pos 6)) origin.Literal)))) (bound.typed
            types.variant (bound.variable (record { 0 = 0 }) false)))) ∷ []);
        rules = (record { bits = 0 });
        mentions = ((mention.Var
            (record { 0 = 0 })) ∷ (mention.Var (record { 0 = 1 })) ∷ (mention.Var (record { 0 = 0 })) ∷ (mention.Var (record {
              0 =
                  1;
            })) ∷ (mention.Var (record { 0 = 0 })) ∷ (mention.Var (record { 0 = 1 })) ∷ (mention.Var (record { 0 = 0 })) ∷ (mention.Var
            (record { 0 = 0 })) ∷ []);
      });
    }) ∷
    (record {
      source = (record {
        place = (record { file = 1; line = 6 });
        text = (118 ∷ 32 ∷ 61 ∷ 32 ∷ 34 ∷ 97 ∷ 34 ∷ []);
        form = (vb.assign (vb.word (codes "v") suffix.Absent) (vb.lit (literal.Str (codes "a"))));
      });
      bindings = (record {
        exprs
            = ((bound.typed types.variant (bound.variable (record { 0 = 0 }) false)) ∷ (bound.typed types.variant (bound.convert types.variant
            (bound.typed types.str (bound.constant (value.Str (codes "a")) origin.Literal)))) ∷ []);
        rules = (record { bits = 0 });
        mentions = ((mention.Var (record { 0 = 0 })) ∷ []);
      });
    }) ∷
    (record {
      source = (record {
        place = (record { file = 1; line = 7 });
        text = (119 ∷ 32 ∷ 61 ∷ 32 ∷ 34 ∷ 98 ∷ 34 ∷ []);
        form = (vb.assign (vb.word (codes "w") suffix.Absent) (vb.lit (literal.Str (codes "b"))));
      });
      bindings = (record {
        exprs
            = ((bound.typed types.variant (bound.variable (record { 0 = 1 }) false)) ∷ (bound.typed types.variant (bound.convert types.variant
            (bound.typed types.str (bound.constant (value.Str (codes "b")) origin.Literal)))) ∷ []);
        rules = (record { bits = 0 });
        mentions = ((mention.Var (record { 0 = 1 })) ∷ []);
      });
    }) ∷
    (record {
      source = (record {
        place = (record { file = 1; line = 8 });
        text = (codes "Debug.Print v < w; v & w; v + w");
        form = (vb.debug_print ((vb.binary bin.Less (vb.word (codes "v") suffix.Absent) (vb.word (codes "w") suffix.Absent)) ∷
            (vb.binary bin.Concat (vb.word (codes "v") suffix.Absent) (vb.word (codes "w") suffix.Absent)) ∷ (vb.binary bin.Add (vb.word
            (codes "v") suffix.Absent) (vb.word (codes "w") suffix.Absent)) ∷ []) false);
      });
      bindings = (record {
        exprs = ((bound.typed
            types.boolean (bound.binary bin.Less (bound.typed types.variant (bound.variable (record { 0 = 0 }) false)) (bound.typed
            types.variant (bound.variable (record { 0 = 1 }) false)))) ∷ (bound.typed types.str (bound.binary bin.Concat (bound.typed
            types.str (bound.convert types.str (bound.typed types.variant (bound.variable (record { 0 = 0 }) false)))) (bound.typed
            types.str (bound.convert types.str (bound.typed types.variant (bound.variable (record { 0 = 1 }) false)))))) ∷ (bound.typed
            types.variant (bound.binary bin.Add (bound.typed types.variant (bound.variable (record { 0 = 0 }) false)) (bound.typed
            types.variant (bound.variable (record { 0 = 1 }) false)))) ∷ []);
        rules = (record { bits = 0 });
        mentions = ((mention.Var
            (record { 0 = 0 })) ∷ (mention.Var (record { 0 = 1 })) ∷ (mention.Var (record { 0 = 0 })) ∷ (mention.Var (record {
              0 =
                  1;
            })) ∷ (mention.Var (record { 0 = 0 })) ∷ (mention.Var (record { 0 = 1 })) ∷ []);
      });
    }) ∷
    (record {
      source = (record {
        place = (record { file = 1; line = 9 });
        text = (codes "v = Empty");
        form = (vb.assign (vb.word
            (codes "v") suffix.Absent) (vb.word (codes "Empty") suffix.Absent));
      });
      bindings = (record {
        exprs = ((bound.typed types.variant
            (bound.variable (record { 0 = 0 }) false)) ∷ (bound.typed types.variant (bound.constant value.Empty origin.Literal)) ∷
            []);
        rules = (record { bits = 0 });
        mentions = ((mention.Var (record { 0 = 0 })) ∷ []);
      });
    }) ∷
    (record {
      source = (record {
        place = (record { file = 1; line = 10 });
        text = (68 ∷ 101 ∷ 98 ∷ 117 ∷ 103 ∷ 46 ∷ 80 ∷ 114
            ∷ 105 ∷ 110 ∷ 116 ∷ 32 ∷ 118 ∷ 32 ∷ 61 ∷ 32 ∷ 48 ∷ 59 ∷ 32 ∷ 118 ∷ 32 ∷ 61 ∷ 32 ∷ 34 ∷ 34 ∷ 59 ∷ 32 ∷ 73 ∷ 115 ∷ 69 ∷
            109 ∷ 112 ∷ 116 ∷ 121 ∷ 40 ∷ 118 ∷ 41 ∷ []);
        form = (vb.debug_print ((vb.binary bin.Equal (vb.word (codes "v") suffix.Absent)
            (vb.lit (literal.Int (pos 0) false))) ∷ (vb.binary bin.Equal (vb.word (codes "v") suffix.Absent) (vb.lit (literal.Str
            []))) ∷ (vb.index (vb.word (codes "IsEmpty") suffix.Absent) (vb.next_arg None false (vb.given (vb.word (codes "v") suffix.Absent))
            vb.no_args)) ∷ []) false);
      });
      bindings = (record {
        exprs = ((bound.typed types.boolean (bound.binary bin.Equal (bound.typed
            types.variant (bound.variable (record { 0 = 0 }) false)) (bound.typed types.variant (bound.convert types.variant (bound.typed
            types.integer (bound.constant (value.Int (pos 0)) origin.Literal)))))) ∷ (bound.typed types.boolean (bound.binary bin.Equal
            (bound.typed types.variant (bound.variable (record { 0 = 0 }) false)) (bound.typed types.variant (bound.convert types.variant
            (bound.typed types.str (bound.constant (value.Str []) origin.Literal)))))) ∷ (bound.typed types.boolean (bound.library
            lib.IsEmpty (bound.next_expr (bound.typed types.variant (bound.variable (record { 0 = 0 }) false)) bound.no_exprs))) ∷
            []);
        rules = (record { bits = 0 });
        mentions = ((mention.Var (record { 0 = 0 })) ∷ (mention.Var (record { 0 = 0 })) ∷
            (mention.Var (record { 0 = 0 })) ∷ []);
      });
    }) ∷
    (record {
      source = (record {
        place = (record { file = 1; line = 11 });
        text = (codes "v = True");
        form = (vb.assign (vb.word
            (codes "v") suffix.Absent) (vb.word (codes "True") suffix.Absent));
      });
      bindings = (record {
        exprs = ((bound.typed types.variant
            (bound.variable (record { 0 = 0 }) false)) ∷ (bound.typed types.variant (bound.convert types.variant (bound.typed types.boolean
            (bound.constant (value.Boolean true) origin.Literal)))) ∷ []);
        rules = (record { bits = 0 });
        mentions = ((mention.Var
            (record { 0 = 0 })) ∷ []);
      });
    }) ∷
    (record {
      source = (record {
        place = (record { file = 1; line = 12 });
        text = (codes "Debug.Print v = -1; v = True");
        form = (vb.debug_print ((vb.binary bin.Equal (vb.word (codes "v") suffix.Absent) (vb.unary un.Neg (vb.lit (literal.Int
            (pos 1) false)))) ∷ (vb.binary bin.Equal (vb.word (codes "v") suffix.Absent) (vb.word (codes "True") suffix.Absent)) ∷
            []) false);
      });
      bindings = (record {
        exprs = ((bound.typed types.boolean (bound.binary bin.Equal (bound.typed types.variant
            (bound.variable (record { 0 = 0 }) false)) (bound.typed types.variant (bound.convert types.variant (bound.typed types.integer
            (bound.unary un.Neg (bound.typed types.integer (bound.constant (value.Int (pos 1)) origin.Literal)))))))) ∷ (bound.typed
            types.boolean (bound.binary bin.Equal (bound.typed types.variant (bound.variable (record { 0 = 0 }) false)) (bound.typed
            types.variant (bound.convert types.variant (bound.typed types.boolean (bound.constant (value.Boolean true) origin.Literal))))))
            ∷ []);
        rules = (record { bits = 0 });
        mentions = ((mention.Var (record { 0 = 0 })) ∷ (mention.Var (record { 0 = 0 }))
            ∷ []);
      });
    }) ∷ [])

abbrev pub bodies : List (List bound.Line)
bodies = body_0 ∷ []

abbrev pub program : bound.Program
program = record { declarations = declarations; bodies = bodies }

abbrev pub quiet : List (List Bool)
quiet = (([]) ∷ [])

abbrev pub lows : List (VarId × ℤ × ℤ)
lows = ([])

abbrev pub clean : List Bool
clean = (true ∷ [])

abbrev pub written : net.Project
written = (record {
  library = false;
  main = (Some (codes "Main1"));
  note = None;
  modules = ((record {
    name = (codes "Main1");
    class = false;
    members = (
        (net.proc (record {
          head = (net.sub net_visible.Public (codes "Main") ([]));
          prologue = (
              (net.local (record { name = (codes "v"); ty = net_types.object; value = None })) ∷
              (net.local (record { name = (codes "w"); ty = net_types.object; value = None })) ∷ []);
          lines = (
              (net.assign (net.path ((codes "v") ∷ [])) (net.cast cast.CObj (net.lit (net.short (pos 5) false)))) ∷
              (net.assign (net.path ((codes "w") ∷ [])) (net.cast cast.CObj (net.lit (net.decimal (pos 55000))))) ∷
              (net.call (net.path ((codes "UpgradeSupport") ∷ (codes "PrintLine") ∷ [])) (net.next_exp (net.binary net_bin.Concat (net.binary
              net_bin.Concat (net.binary net_bin.Concat (net.binary net_bin.Concat (net.cast cast.CStr (net.binary net_bin.Less (net.call_of
              (net.path ((codes "UpgradeSupport") ∷ (codes "VarComp") ∷ [])) (net.next_exp (net.path ((codes "v") ∷ [])) (net.next_exp
              (net.path ((codes "w") ∷ [])) net.no_exps))) (net.lit (net.integer (pos 0) false)))) (net.cast cast.CStr (net.binary net_bin.Equal
              (net.call_of (net.path ((codes "UpgradeSupport") ∷ (codes "VarComp") ∷ [])) (net.next_exp (net.path ((codes "v") ∷ []))
              (net.next_exp (net.path ((codes "w") ∷ [])) net.no_exps))) (net.lit (net.integer (pos 0) false))))) (net.cast cast.CStr
              (net.binary net_bin.Greater (net.call_of (net.path ((codes "UpgradeSupport") ∷ (codes "VarComp") ∷ [])) (net.next_exp
              (net.path ((codes "v") ∷ [])) (net.next_exp (net.path ((codes "w") ∷ [])) net.no_exps))) (net.lit (net.integer (pos 0)
              false))))) (net.cast cast.CStr (net.binary net_bin.Equal (net.call_of (net.path ((codes "UpgradeSupport") ∷ (codes "VarComp")
              ∷ [])) (net.next_exp (net.path ((codes "v") ∷ [])) (net.next_exp (net.cast cast.CObj (net.lit (net.short (pos 5) false)))
              net.no_exps))) (net.lit (net.integer (pos 0) false))))) (net.cast cast.CStr (net.binary net_bin.Greater (net.call_of (net.path
              ((codes "UpgradeSupport") ∷ (codes "VarComp") ∷ [])) (net.next_exp (net.cast cast.CObj (net.lit (net.short (pos 6) false)))
              (net.next_exp (net.path ((codes "v") ∷ [])) net.no_exps))) (net.lit (net.integer (pos 0) false))))) net.no_exps)) ∷
              (net.assign (net.path ((codes "v") ∷ [])) (net.cast cast.CObj (net.binary net_bin.Concat (net.lit (net.str [])) (net.lit
              (net.str (codes "a")))))) ∷
              (net.assign (net.path ((codes "w") ∷ [])) (net.cast cast.CObj (net.binary net_bin.Concat (net.lit (net.str [])) (net.lit
              (net.str (codes "b")))))) ∷
              (net.call (net.path ((codes "UpgradeSupport") ∷ (codes "PrintLine") ∷ [])) (net.next_exp (net.binary net_bin.Concat (net.binary
              net_bin.Concat (net.cast cast.CStr (net.binary net_bin.Less (net.call_of (net.path ((codes "UpgradeSupport") ∷ (codes
              "VarComp") ∷ [])) (net.next_exp (net.path ((codes "v") ∷ [])) (net.next_exp (net.path ((codes "w") ∷ [])) net.no_exps)))
              (net.lit (net.integer (pos 0) false)))) (net.binary net_bin.Concat (net.call_of (net.path ((codes "UpgradeSupport") ∷
              (codes "VarStr") ∷ [])) (net.next_exp (net.path ((codes "v") ∷ [])) net.no_exps)) (net.call_of (net.path ((codes "UpgradeSupport")
              ∷ (codes "VarStr") ∷ [])) (net.next_exp (net.path ((codes "w") ∷ [])) net.no_exps)))) (net.call_of (net.path ((codes "UpgradeSupport")
              ∷ (codes "PrintVar") ∷ [])) (net.next_exp (net.call_of (net.path ((codes "UpgradeSupport") ∷ (codes "VarAdd") ∷ [])) (net.next_exp
              (net.path ((codes "v") ∷ [])) (net.next_exp (net.path ((codes "w") ∷ [])) net.no_exps))) net.no_exps))) net.no_exps))
              ∷
              (net.assign (net.path ((codes "v") ∷ [])) net.nothing) ∷
              (net.call (net.path ((codes "UpgradeSupport") ∷ (codes "PrintLine") ∷ [])) (net.next_exp (net.binary net_bin.Concat (net.binary
              net_bin.Concat (net.cast cast.CStr (net.binary net_bin.Equal (net.call_of (net.path ((codes "UpgradeSupport") ∷ (codes
              "VarComp") ∷ [])) (net.next_exp (net.path ((codes "v") ∷ [])) (net.next_exp (net.cast cast.CObj (net.lit (net.short (pos
              0) false))) net.no_exps))) (net.lit (net.integer (pos 0) false)))) (net.cast cast.CStr (net.binary net_bin.Equal (net.call_of
              (net.path ((codes "UpgradeSupport") ∷ (codes "VarComp") ∷ [])) (net.next_exp (net.path ((codes "v") ∷ [])) (net.next_exp
              (net.cast cast.CObj (net.binary net_bin.Concat (net.lit (net.str [])) (net.lit (net.str [])))) net.no_exps))) (net.lit
              (net.integer (pos 0) false))))) (net.cast cast.CStr (net.binary net_bin.Is (net.path ((codes "v") ∷ [])) net.nothing)))
              net.no_exps)) ∷
              (net.assign (net.path ((codes "v") ∷ [])) (net.cast cast.CObj (net.lit (net.boolean true)))) ∷
              (net.call (net.path ((codes "UpgradeSupport") ∷ (codes "PrintLine") ∷ [])) (net.next_exp (net.binary net_bin.Concat (net.cast
              cast.CStr (net.binary net_bin.Equal (net.call_of (net.path ((codes "UpgradeSupport") ∷ (codes "VarComp") ∷ [])) (net.next_exp
              (net.path ((codes "v") ∷ [])) (net.next_exp (net.cast cast.CObj (net.unary net_un.Neg (net.lit (net.short (pos 1) false))))
              net.no_exps))) (net.lit (net.integer (pos 0) false)))) (net.cast cast.CStr (net.binary net_bin.Equal (net.call_of (net.path
              ((codes "UpgradeSupport") ∷ (codes "VarComp") ∷ [])) (net.next_exp (net.path ((codes "v") ∷ [])) (net.next_exp (net.cast
              cast.CObj (net.lit (net.boolean true))) net.no_exps))) (net.lit (net.integer (pos 0) false))))) net.no_exps)) ∷ []);
          close
              = close.EndSub;
        })) ∷ []);
  }) ∷ []);
  support = (record {
    name = (codes "UpgradeSupport");
    class = false;
    members = (
        (net.proc (record {
          head = (net.sub net_visible.Public (codes "PrintLine") ((record {
            passing = net_passing.Value;
            name
                = (codes "s");
            ty = net_types.str;
          }) ∷ []));
          prologue = ([]);
          lines = (
              (net.call (net.path ((codes "System") ∷ (codes "Console") ∷ (codes "WriteLine") ∷ [])) (net.next_exp (net.path ((codes
              "s") ∷ [])) net.no_exps)) ∷ []);
          close = close.EndSub;
        })) ∷
        (net.proc (record {
          head = (net.function net_visible.Public (codes "CurText") ((record {
            passing = net_passing.Value;
            name = (codes "d");
            ty = net_types.decimal;
          }) ∷ []) net_types.str);
          prologue = ([]);
          lines = (
              (net.assign (net.path ((codes "CurText") ∷ [])) (net.call_of (net.path ((codes "d") ∷ (codes "ToString") ∷ [])) (net.next_exp
              (net.lit (net.str (codes "0.####"))) (net.next_exp (net.path ((codes "System") ∷ (codes "Globalization") ∷ (codes "CultureInfo")
              ∷ (codes "InvariantCulture") ∷ [])) net.no_exps)))) ∷ []);
          close = close.EndFunction;
        })) ∷
        (net.proc (record {
          head = (net.function net_visible.Public (codes "PrintNum") ((record {
            passing = net_passing.Value;
            name = (codes "d");
            ty = net_types.decimal;
          }) ∷ []) net_types.str);
          prologue = ([]);
          lines = (
              (net.if_head (net.binary net_bin.Less (net.path ((codes "d") ∷ [])) (net.lit (net.decimal (pos 0))))) ∷
              (net.assign (net.path ((codes "PrintNum") ∷ [])) (net.binary net_bin.Concat (net.call_of (net.path ((codes "CurText")
              ∷ [])) (net.next_exp (net.path ((codes "d") ∷ [])) net.no_exps)) (net.lit (net.str (codes " "))))) ∷
              net.else_line ∷
              (net.assign (net.path ((codes "PrintNum") ∷ [])) (net.binary net_bin.Concat (net.binary net_bin.Concat (net.lit (net.str
              (codes " "))) (net.call_of (net.path ((codes "CurText") ∷ [])) (net.next_exp (net.path ((codes "d") ∷ [])) net.no_exps)))
              (net.lit (net.str (codes " "))))) ∷
              net.end_if ∷ []);
          close = close.EndFunction;
        })) ∷
        (net.proc (record {
          head = (net.function net_visible.Public (codes "PrintVar") ((record {
            passing = net_passing.Value;
            name = (codes "v");
            ty = net_types.object;
          }) ∷ []) net_types.str);
          prologue = ([]);
          lines = (
              (net.if_head (net.binary net_bin.Or (net.binary net_bin.Equal (net.call_of (net.path ((codes "Rank") ∷ [])) (net.next_exp
              (net.path ((codes "v") ∷ [])) net.no_exps)) (net.lit (net.integer (pos 6) false))) (net.binary net_bin.Or (net.binary
              net_bin.Is (net.path ((codes "v") ∷ [])) net.nothing) (net.type_of (net.path ((codes "v") ∷ [])) net_types.boolean))))
              ∷
              (net.assign (net.path ((codes "PrintVar") ∷ [])) (net.call_of (net.path ((codes "VarStr") ∷ [])) (net.next_exp (net.path
              ((codes "v") ∷ [])) net.no_exps))) ∷
              net.else_line ∷
              (net.assign (net.path ((codes "PrintVar") ∷ [])) (net.call_of (net.path ((codes "PrintNum") ∷ [])) (net.next_exp (net.call_of
              (net.path ((codes "Num") ∷ [])) (net.next_exp (net.path ((codes "v") ∷ [])) net.no_exps)) net.no_exps))) ∷
              net.end_if ∷ []);
          close = close.EndFunction;
        })) ∷
        (net.proc (record {
          head = (net.function net_visible.Public (codes "Cur") ((record {
            passing = net_passing.Value;
            name
                = (codes "d");
            ty = net_types.decimal;
          }) ∷ []) net_types.decimal);
          prologue = ([]);
          lines = (
              (net.if_head (net.binary net_bin.Or (net.binary net_bin.Less (net.path ((codes "d") ∷ [])) (net.unary net_un.Neg (net.lit
              (net.decimal (pos 9223372036854775808))))) (net.binary net_bin.Greater (net.path ((codes "d") ∷ [])) (net.lit (net.decimal
              (pos 9223372036854775807)))))) ∷
              (net.call (net.path ((codes "Raise") ∷ [])) (net.next_exp (net.lit (net.integer (pos 6) false)) net.no_exps)) ∷
              net.end_if ∷
              (net.assign (net.path ((codes "Cur") ∷ [])) (net.path ((codes "d") ∷ []))) ∷ []);
          close = close.EndFunction;
        })) ∷
        (net.proc (record {
          head = (net.sub net_visible.Public (codes "Raise") ((record {
            passing = net_passing.Value;
            name =
                (codes "n");
            ty = net_types.integer;
          }) ∷ []));
          prologue = ([]);
          lines = (
              (net.call (net.dot (net.call_of (net.path ((codes "Microsoft") ∷ (codes "VisualBasic") ∷ (codes "Information") ∷ (codes
              "Err") ∷ [])) net.no_exps) (codes "Raise")) (net.next_exp (net.path ((codes "n") ∷ [])) net.no_exps)) ∷ []);
          close = close.EndSub;
        })) ∷
        (net.proc (record {
          head = (net.function net_visible.Public (codes "Rank") ((record {
            passing = net_passing.Value;
            name
                = (codes "v");
            ty = net_types.object;
          }) ∷ []) net_types.integer);
          prologue = ([]);
          lines = (
              (net.if_head (net.type_of (net.path ((codes "v") ∷ [])) net_types.str)) ∷
              (net.assign (net.path ((codes "Rank") ∷ [])) (net.lit (net.integer (pos 6) false))) ∷
              (net.else_if (net.type_of (net.path ((codes "v") ∷ [])) net_types.decimal)) ∷
              (net.assign (net.path ((codes "Rank") ∷ [])) (net.lit (net.integer (pos 5) false))) ∷
              (net.else_if (net.type_of (net.path ((codes "v") ∷ [])) net_types.integer)) ∷
              (net.assign (net.path ((codes "Rank") ∷ [])) (net.lit (net.integer (pos 4) false))) ∷
              (net.else_if (net.type_of (net.path ((codes "v") ∷ [])) net_types.byte)) ∷
              (net.assign (net.path ((codes "Rank") ∷ [])) (net.lit (net.integer (pos 2) false))) ∷
              net.else_line ∷
              (net.assign (net.path ((codes "Rank") ∷ [])) (net.lit (net.integer (pos 3) false))) ∷
              net.end_if ∷ []);
          close = close.EndFunction;
        })) ∷
        (net.proc (record {
          head = (net.function net_visible.Public (codes "Wider") ((record {
            passing = net_passing.Value;
            name
                = (codes "a");
            ty = net_types.object;
          }) ∷ (record {
            passing = net_passing.Value;
            name = (codes "b");
            ty = net_types.object;
          }) ∷ []) net_types.integer);
          prologue = ([]);
          lines = (
              (net.assign (net.path ((codes "Wider") ∷ [])) (net.call_of (net.path ((codes "System") ∷ (codes "Math") ∷ (codes "Max")
              ∷ [])) (net.next_exp (net.call_of (net.path ((codes "Rank") ∷ [])) (net.next_exp (net.path ((codes "a") ∷ [])) net.no_exps))
              (net.next_exp (net.call_of (net.path ((codes "Rank") ∷ [])) (net.next_exp (net.path ((codes "b") ∷ [])) net.no_exps))
              net.no_exps)))) ∷ []);
          close = close.EndFunction;
        })) ∷
        (net.proc (record {
          head = (net.function net_visible.Public (codes "Num") ((record {
            passing = net_passing.Value;
            name
                = (codes "v");
            ty = net_types.object;
          }) ∷ []) net_types.decimal);
          prologue = ([]);
          lines = (
              (net.if_head (net.binary net_bin.Equal (net.call_of (net.path ((codes "Rank") ∷ [])) (net.next_exp (net.path ((codes "v")
              ∷ [])) net.no_exps)) (net.lit (net.integer (pos 6) false)))) ∷
              (net.call (net.path ((codes "Raise") ∷ [])) (net.next_exp (net.lit (net.integer (pos 13) false)) net.no_exps)) ∷
              net.end_if ∷
              (net.assign (net.path ((codes "Num") ∷ [])) (net.cast cast.CDec (net.path ((codes "v") ∷ [])))) ∷ []);
          close = close.EndFunction;
        })) ∷
        (net.proc (record {
          head = (net.function net_visible.Public (codes "Fit") ((record {
            passing = net_passing.Value;
            name
                = (codes "d");
            ty = net_types.decimal;
          }) ∷ (record {
            passing = net_passing.Value;
            name = (codes "k");
            ty = net_types.integer;
          }) ∷ []) net_types.object);
          prologue = ([]);
          lines = (
              (net.if_head (net.binary net_bin.Equal (net.path ((codes "k") ∷ [])) (net.lit (net.integer (pos 5) false)))) ∷
              (net.assign (net.path ((codes "Fit") ∷ [])) (net.call_of (net.path ((codes "Cur") ∷ [])) (net.next_exp (net.path ((codes
              "d") ∷ [])) net.no_exps))) ∷
              (net.else_if (net.binary net_bin.And (net.binary net_bin.And (net.binary net_bin.Equal (net.path ((codes "k") ∷ [])) (net.lit
              (net.integer (pos 2) false))) (net.binary net_bin.GreaterEqual (net.path ((codes "d") ∷ [])) (net.lit (net.decimal (pos
              0))))) (net.binary net_bin.LessEqual (net.path ((codes "d") ∷ [])) (net.lit (net.decimal (pos 2550000)))))) ∷
              (net.assign (net.path ((codes "Fit") ∷ [])) (net.cast cast.CByte (net.path ((codes "d") ∷ [])))) ∷
              (net.else_if (net.binary net_bin.And (net.binary net_bin.And (net.binary net_bin.Less (net.path ((codes "k") ∷ [])) (net.lit
              (net.integer (pos 4) false))) (net.binary net_bin.GreaterEqual (net.path ((codes "d") ∷ [])) (net.unary net_un.Neg (net.lit
              (net.decimal (pos 327680000)))))) (net.binary net_bin.LessEqual (net.path ((codes "d") ∷ [])) (net.lit (net.decimal (pos
              327670000)))))) ∷
              (net.assign (net.path ((codes "Fit") ∷ [])) (net.cast cast.CShort (net.path ((codes "d") ∷ [])))) ∷
              net.else_line ∷
              (net.assign (net.path ((codes "Fit") ∷ [])) (net.cast cast.CInt (net.path ((codes "d") ∷ [])))) ∷
              net.end_if ∷ []);
          close = close.EndFunction;
        })) ∷
        (net.proc (record {
          head = (net.function net_visible.Public (codes "VarAdd") ((record {
            passing = net_passing.Value;
            name
                = (codes "a");
            ty = net_types.object;
          }) ∷ (record {
            passing = net_passing.Value;
            name = (codes "b");
            ty = net_types.object;
          }) ∷ []) net_types.object);
          prologue = ([]);
          lines = (
              (net.if_head (net.binary net_bin.Equal (net.call_of (net.path ((codes "Wider") ∷ [])) (net.next_exp (net.path ((codes
              "a") ∷ [])) (net.next_exp (net.path ((codes "b") ∷ [])) net.no_exps))) (net.lit (net.integer (pos 6) false)))) ∷
              (net.assign (net.path ((codes "VarAdd") ∷ [])) (net.binary net_bin.Concat (net.call_of (net.path ((codes "VarStr") ∷ []))
              (net.next_exp (net.path ((codes "a") ∷ [])) net.no_exps)) (net.call_of (net.path ((codes "VarStr") ∷ [])) (net.next_exp
              (net.path ((codes "b") ∷ [])) net.no_exps)))) ∷
              net.else_line ∷
              (net.assign (net.path ((codes "VarAdd") ∷ [])) (net.call_of (net.path ((codes "Fit") ∷ [])) (net.next_exp (net.binary
              net_bin.Add (net.call_of (net.path ((codes "Num") ∷ [])) (net.next_exp (net.path ((codes "a") ∷ [])) net.no_exps)) (net.call_of
              (net.path ((codes "Num") ∷ [])) (net.next_exp (net.path ((codes "b") ∷ [])) net.no_exps))) (net.next_exp (net.call_of
              (net.path ((codes "Wider") ∷ [])) (net.next_exp (net.path ((codes "a") ∷ [])) (net.next_exp (net.path ((codes "b") ∷ []))
              net.no_exps))) net.no_exps)))) ∷
              net.end_if ∷ []);
          close = close.EndFunction;
        })) ∷
        (net.proc (record {
          head = (net.function net_visible.Public (codes "VarStr") ((record {
            passing = net_passing.Value;
            name
                = (codes "v");
            ty = net_types.object;
          }) ∷ []) net_types.str);
          prologue = ([]);
          lines = (
              (net.if_head (net.type_of (net.path ((codes "v") ∷ [])) net_types.decimal)) ∷
              (net.assign (net.path ((codes "VarStr") ∷ [])) (net.call_of (net.path ((codes "CurText") ∷ [])) (net.next_exp (net.cast
              cast.CDec (net.path ((codes "v") ∷ []))) net.no_exps))) ∷
              net.else_line ∷
              (net.assign (net.path ((codes "VarStr") ∷ [])) (net.cast cast.CStr (net.path ((codes "v") ∷ [])))) ∷
              net.end_if ∷ []);
          close = close.EndFunction;
        })) ∷
        (net.proc (record {
          head = (net.function net_visible.Public (codes "VarComp") ((record {
            passing = net_passing.Value;
            name = (codes "a");
            ty = net_types.object;
          }) ∷ (record {
            passing = net_passing.Value;
            name = (codes "b");
            ty = net_types.object;
          }) ∷ []) net_types.integer);
          prologue = ([]);
          lines = (
              (net.if_head (net.binary net_bin.Equal (net.call_of (net.path ((codes "Wider") ∷ [])) (net.next_exp (net.path ((codes
              "a") ∷ [])) (net.next_exp (net.path ((codes "b") ∷ [])) net.no_exps))) (net.lit (net.integer (pos 6) false)))) ∷
              (net.assign (net.path ((codes "VarComp") ∷ [])) (net.call_of (net.path ((codes "System") ∷ (codes "String") ∷ (codes "CompareOrdinal")
              ∷ [])) (net.next_exp (net.binary net_bin.Concat (net.lit (net.str [])) (net.call_of (net.path ((codes "VarStr") ∷ []))
              (net.next_exp (net.path ((codes "a") ∷ [])) net.no_exps))) (net.next_exp (net.binary net_bin.Concat (net.lit (net.str
              [])) (net.call_of (net.path ((codes "VarStr") ∷ [])) (net.next_exp (net.path ((codes "b") ∷ [])) net.no_exps))) net.no_exps))))
              ∷
              net.else_line ∷
              (net.assign (net.path ((codes "VarComp") ∷ [])) (net.call_of (net.path ((codes "System") ∷ (codes "Decimal") ∷ (codes
              "Compare") ∷ [])) (net.next_exp (net.call_of (net.path ((codes "Num") ∷ [])) (net.next_exp (net.path ((codes "a") ∷ []))
              net.no_exps)) (net.next_exp (net.call_of (net.path ((codes "Num") ∷ [])) (net.next_exp (net.path ((codes "b") ∷ [])) net.no_exps))
              net.no_exps)))) ∷
              net.end_if ∷ []);
          close = close.EndFunction;
        })) ∷ []);
  });
})

abbrev pub runnable : Runnable
runnable = runnable_of program quiet lows

said : ran runnable 0 2000 ≡ (
  line (codes "TrueFalseFalseTrueTrue")
      ++ line (codes "Trueabab")
      ++ line (codes "TrueTrueTrue")
      ++ line (codes "TrueTrue"),
  ended,
)
unfolding digits
said = refl
