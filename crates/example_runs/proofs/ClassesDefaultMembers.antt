-- The program classes-default-members, what it puts out and how it ends.
use Rattle.std.proofs.Common.{◌≡◌, refl, ◌++◌, List, ℤ, pos, Bool, true, false, [], ◌∷◌, codes, Some, None}
use Rattle.vb_tree.specs.declared.declared.VarId.{VarId}
use Rattle.bound_tree.specs.Tree as bound
use Rattle.net_tree.specs.Tree as net
use Rattle.net_tree.specs.Types as net_types
use Rattle.vb_tree.specs.BoundTree as types
use Rattle.vb_tree.specs.Tree as vb
use Rattle.vb_tree.specs.declared.expression.BinOp.TheVariants as bin
use Rattle.net_tree.specs.declared.expression.CastWord.TheVariants as cast
use Rattle.net_tree.specs.declared.declaration.NetClose.TheVariants as close
use Rattle.vb_tree.specs.declared.declared.ProcKind.TheVariants as kind
use Rattle.vb_tree.specs.declared.token.Literal6.TheVariants as literal
use Rattle.bound_tree.specs.declared.body.Mention.TheVariants as mention
use Rattle.bound_tree.specs.declared.declared.Named.TheVariants as named
use Rattle.net_tree.specs.declared.expression.NetBin.TheVariants as net_bin
use Rattle.net_tree.specs.declared.declaration.NetPassing.TheVariants as net_passing
use Rattle.net_tree.specs.declared.declaration.NetVisibility.TheVariants as net_visible
use Rattle.bound_tree.specs.declared.expression.Origin.TheVariants as origin
use Rattle.vb_tree.specs.declared.declared.Owner.TheVariants as owner
use Rattle.vb_tree.specs.declared.form_parts.Passing.TheVariants as passing
use Rattle.vb_tree.specs.declared.project.ProjectKind.TheVariants as project_kind
use Rattle.bound_tree.specs.declared.declared.Scope.TheVariants as scope
use Rattle.vb_tree.specs.declared.token.Sign.TheVariants as sign
use Rattle.vb_tree.specs.declared.token.Suffix.TheVariants as suffix
use Rattle.vb_tree.specs.declared.token.TokenKind.TheVariants as token
use Rattle.vb_tree.specs.declared.value.Value6.TheVariants as value
use Rattle.vb_tree.specs.declared.form_parts.VarWord.TheVariants as var
use Rattle.vb_tree.specs.declared.form_parts.Visibility.TheVariants as visible
use Rattle.std.specs.Fmt.{digits}
use Rattle.example_runs.proofs.Said.{ended, line, ran, runnable_of}
use Rattle.vb6_run.specs.Runnables.{Runnable}

abbrev pub project : vb.Project
project = (record {
  file = (record {
    kind = project_kind.Exe;
    startup = (Some (4, (codes "Sub Main")));
    entries = ((record
        { line = 2; class = false; name = (codes "Main1"); file = (codes "Main1.bas") }) ∷ (record {
          line = 3;
          class = true;
          name
              = (codes "Cell");
          file = (codes "Cell.cls");
        }) ∷ []);
    dropped = ([]);
  });
  modules = ((record {
    file = 1;
    name = (codes
        "Main1");
    class = false;
    members = (
        (vb.proc (record {
          place = (record { file = 1; line = 1 });
          text = (codes "Sub Main()");
          form = (vb.sub_head (record {
            visibility = None;
            name = (codes "Main");
            suffix = suffix.Absent;
            params = ([]);
          }));
        }) (vb.next_node
        (vb.line (record {
          place = (record { file = 1; line = 2 });
          text = (codes "Dim a As Cell, n As Long");
          form = (vb.variables
              var.Dim ((record {
                name = (codes "a");
                suffix = suffix.Absent;
                bounds = None;
                auto = false;
                ty = (Some (vb.named (codes
                    "Cell")));
              }) ∷ (record {
                name = (codes "n");
                suffix = suffix.Absent;
                bounds = None;
                auto = false;
                ty = (Some (vb.named
                    (codes "Long")));
              }) ∷ []));
        })) (vb.next_node
        (vb.line (record {
          place = (record { file = 1; line = 3 });
          text = (codes "Set a = New Cell");
          form = (vb.set (vb.word
              (codes "a") suffix.Absent) (vb.new_object (codes "Cell")));
        })) (vb.next_node
        (vb.line (record {
          place = (record { file = 1; line = 4 });
          text = (codes "a = 5");
          form = (vb.assign (vb.word (codes
              "a") suffix.Absent) (vb.lit (literal.Int (pos 5) false)));
        })) (vb.next_node
        (vb.line (record {
          place = (record { file = 1; line = 5 });
          text = (codes "n = a");
          form = (vb.assign (vb.word (codes
              "n") suffix.Absent) (vb.word (codes "a") suffix.Absent));
        })) (vb.next_node
        (vb.line (record {
          place = (record { file = 1; line = 6 });
          text = (codes "a = n + 1");
          form = (vb.assign (vb.word (codes
              "a") suffix.Absent) (vb.binary bin.Add (vb.word (codes "n") suffix.Absent) (vb.lit (literal.Int (pos 1) false))));
        }))
        (vb.next_node
        (vb.line (record {
          place = (record { file = 1; line = 7 });
          text = (68 ∷ 101 ∷ 98 ∷ 117 ∷ 103 ∷ 46 ∷ 80 ∷ 114 ∷ 105
              ∷ 110 ∷ 116 ∷ 32 ∷ 97 ∷ 59 ∷ 32 ∷ 110 ∷ 59 ∷ 32 ∷ 97 ∷ 32 ∷ 38 ∷ 32 ∷ 34 ∷ 120 ∷ 34 ∷ []);
          form = (vb.debug_print ((vb.word
              (codes "a") suffix.Absent) ∷ (vb.word (codes "n") suffix.Absent) ∷ (vb.binary bin.Concat (vb.word (codes "a") suffix.Absent)
              (vb.lit (literal.Str (codes "x")))) ∷ []) false);
        })) vb.no_nodes)))))) (record {
          place = (record {
            file = 1;
            line = 8;
          });
          text = (codes "End Sub");
          form = vb.end_sub;
        })) ∷ []);
    comments = ([]);
  }) ∷ (record {
    file = 2;
    name = (codes "Cell");
    class = true;
    members = (
        (vb.alone (record {
          place = (record { file = 2; line = 4 });
          text = (codes "Private m As Long");
          form = (vb.variables
              var.Private ((record {
                name = (codes "m");
                suffix = suffix.Absent;
                bounds = None;
                auto = false;
                ty = (Some (vb.named (codes
                    "Long")));
              }) ∷ []));
        })) ∷
        (vb.proc (record {
          place = (record { file = 2; line = 6 });
          text = (codes "Public Property Get Value() As Long");
          form
              = (vb.get_head (record {
                visibility = (Some visible.Public);
                name = (codes "Value");
                suffix = suffix.Absent;
                params =
                    ([]);
              }) (Some (record { ty = (vb.named (codes "Long")); array = false })));
        }) (vb.next_node
        (vb.line (record {
          place = (record { file = 2; line = 7 });
          text = (codes "Attribute Value.VB_UserMemId = 0");
          form
              = (vb.attribute ((record { kind = (token.Word (codes "Value") suffix.Absent); line = 7; from = 14; to = 19 }) ∷ (record
              { kind = (token.Sign sign.Dot); line = 7; from = 19; to = 20 }) ∷ (record {
                kind = (token.Word (codes "VB_UserMemId")
                    suffix.Absent);
                line = 7;
                from = 20;
                to = 32;
              }) ∷ (record {
                kind = (token.Sign sign.Equal);
                line = 7;
                from = 33;
                to =
                    34;
              }) ∷ (record { kind = (token.Lit (literal.Int (pos 0) false)); line = 7; from = 35; to = 36 }) ∷ []));
        })) (vb.next_node
        (vb.line (record {
          place = (record { file = 2; line = 8 });
          text = (68 ∷ 101 ∷ 98 ∷ 117 ∷ 103 ∷ 46 ∷ 80 ∷ 114 ∷ 105
              ∷ 110 ∷ 116 ∷ 32 ∷ 34 ∷ 103 ∷ 101 ∷ 116 ∷ 34 ∷ []);
          form = (vb.debug_print ((vb.lit (literal.Str (codes "get"))) ∷ [])
              false);
        })) (vb.next_node
        (vb.line (record {
          place = (record { file = 2; line = 9 });
          text = (codes "Value = m");
          form = (vb.assign (vb.word (codes
              "Value") suffix.Absent) (vb.word (codes "m") suffix.Absent));
        })) vb.no_nodes))) (record {
          place = (record {
            file = 2;
            line = 10;
          });
          text = (codes "End Property");
          form = vb.end_property;
        })) ∷
        (vb.proc (record {
          place = (record { file = 2; line = 12 });
          text = (codes "Public Property Let Value(ByVal v As Long)");
          form = (vb.let_head (record {
            visibility = (Some visible.Public);
            name = (codes "Value");
            suffix = suffix.Absent;
            params
                = ((record {
                  optional = false;
                  passing = passing.Value;
                  param_array = false;
                  name = (codes "v");
                  suffix = suffix.Absent;
                  array = false;
                  ty = (Some (vb.named (codes "Long")));
                  preset = None;
                }) ∷ []);
          }));
        }) (vb.next_node
        (vb.line (record {
          place = (record { file = 2; line = 13 });
          text = (68 ∷ 101 ∷ 98 ∷ 117 ∷ 103 ∷ 46 ∷ 80 ∷ 114 ∷ 105
              ∷ 110 ∷ 116 ∷ 32 ∷ 34 ∷ 108 ∷ 101 ∷ 116 ∷ 34 ∷ []);
          form = (vb.debug_print ((vb.lit (literal.Str (codes "let"))) ∷ [])
              false);
        })) (vb.next_node
        (vb.line (record {
          place = (record { file = 2; line = 14 });
          text = (codes "m = v");
          form = (vb.assign (vb.word (codes
              "m") suffix.Absent) (vb.word (codes "v") suffix.Absent));
        })) vb.no_nodes)) (record {
          place = (record {
            file = 2;
            line
                = 15;
          });
          text = (codes "End Property");
          form = vb.end_property;
        })) ∷ []);
    comments = ([]);
  }) ∷ []);
})

abbrev pub declarations : bound.Declarations
declarations = (record {
  project = project;
  names = (
      (record { name = (codes "Main"); scope = (scope.Public 1); named = (named.Proc (record { 0 = 0 })) }) ∷
      (record { name = (codes "a"); scope = (scope.Local (record { 0 = 0 })); named = (named.Var (record { 0 = 0 })) }) ∷
      (record { name = (codes "n"); scope = (scope.Local (record { 0 = 0 })); named = (named.Var (record { 0 = 1 })) }) ∷
      (record { name = (codes "m"); scope = (scope.Private 2); named = (named.Var (record { 0 = 2 })) }) ∷
      (record { name = (codes "Value"); scope = (scope.Public 2); named = (named.Proc (record { 0 = 1 })) }) ∷
      (record { name = (codes "Value"); scope = (scope.Local (record { 0 = 1 })); named = (named.Var (record { 0 = 3 })) })
      ∷
      (record { name = (codes "Value"); scope = (scope.Public 2); named = (named.Proc (record { 0 = 2 })) }) ∷
      (record { name = (codes "v"); scope = (scope.Local (record { 0 = 2 })); named = (named.Var (record { 0 = 4 })) }) ∷ []);
  vars = (
      (record {
        name = (codes "a");
        place = (record { file = 1; line = 2 });
        statement = 1;
        owner = (owner.Local (record {
          0
              = 0;
        }));
        ty = (types.class 0);
        named = (types.class 0);
        qualified = false;
        lettered = None;
        bounds = ([]);
        auto = false;
        preset = None;
      }) ∷
      (record {
        name = (codes "n");
        place = (record { file = 1; line = 2 });
        statement = 1;
        owner = (owner.Local (record {
          0
              = 0;
        }));
        ty = types.long;
        named = types.long;
        qualified = false;
        lettered = None;
        bounds = ([]);
        auto = false;
        preset
            = None;
      }) ∷
      (record {
        name = (codes "m");
        place = (record { file = 2; line = 4 });
        statement = 0;
        owner = (owner.Module 2);
        ty = types.long;
        named = types.long;
        qualified = false;
        lettered = None;
        bounds = ([]);
        auto = false;
        preset = None;
      }) ∷
      (record {
        name = (codes "Value");
        place = (record { file = 2; line = 6 });
        statement = 1;
        owner = (owner.Answer (record
            { 0 = 1 }));
        ty = types.long;
        named = types.long;
        qualified = false;
        lettered = None;
        bounds = ([]);
        auto = false;
        preset
            = None;
      }) ∷
      (record {
        name = (codes "v");
        place = (record { file = 2; line = 12 });
        statement = 6;
        owner = (owner.Value (record {
          0 = 2;
        }));
        ty = types.long;
        named = types.long;
        qualified = false;
        lettered = None;
        bounds = ([]);
        auto = false;
        preset
            = None;
      }) ∷ []);
  consts = ([]);
  procs = (
      (record {
        name = (codes "Main");
        place = (record { file = 1; line = 1 });
        module_number = 1;
        kind = kind.Sub;
        visibility
            = visible.Public;
        params = ([]);
        result = types.nothing;
        answer = None;
        first = (record { 0 = 0 });
      }) ∷
      (record {
        name = (codes "Value");
        place = (record { file = 2; line = 6 });
        module_number = 2;
        kind = kind.Get;
        visibility
            = visible.Public;
        params = ([]);
        result = types.long;
        answer = (Some (record { 0 = 3 }));
        first = (record { 0 = 1 });
      })
      ∷
      (record {
        name = (codes "Value");
        place = (record { file = 2; line = 12 });
        module_number = 2;
        kind = kind.Let;
        visibility
            = visible.Public;
        params = ((record { 0 = 4 }) ∷ []);
        result = types.nothing;
        answer = None;
        first = (record { 0 = 1 });
      }) ∷ []);
  types = ([]);
  enums = ([]);
  defaults = ((Some (record { 0 = 1 })) ∷ []);
})

abbrev pub body_0 : List bound.Line
body_0 = (
    (record {
      source = (record {
        place = (record { file = 1; line = 3 });
        text = (codes "Set a = New Cell");
        form = (vb.set
            (vb.word (codes "a") suffix.Absent) (vb.new_object (codes "Cell")));
      });
      bindings = (record {
        exprs = ((bound.typed (types.class
            0) (bound.variable (record { 0 = 0 }) false)) ∷ (bound.typed (types.class 0) (bound.new_object (record { 0 = 0 }))) ∷
            []);
        rules = (record { bits = 0 });
        mentions = ((mention.Var (record { 0 = 0 })) ∷ (mention.Class (record { 0 = 0 }))
            ∷ []);
      });
    }) ∷
    (record {
      source = (record {
        place = (record { file = 1; line = 4 });
        text = (codes "a = 5");
        form = (vb.assign (vb.word
            (codes "a") suffix.Absent) (vb.lit (literal.Int (pos 5) false)));
      });
      bindings = (record {
        exprs = ((bound.typed types.long
            (bound.call (record { 0 = 2 }) false (bound.of_object (bound.typed (types.class 0) (bound.variable (record { 0 = 0 })
            false))) bound.no_passed)) ∷ (bound.typed types.long (bound.convert types.long (bound.typed types.integer (bound.constant
            (value.Int (pos 5)) origin.Literal)))) ∷ []);
        rules = (record { bits = 0 });
        mentions = ((mention.Proc (record {
          0 = 2;
        })) ∷ (mention.Var (record { 0 = 0 })) ∷ []);
      });
    }) ∷
    (record {
      source = (record {
        place = (record { file = 1; line = 5 });
        text = (codes "n = a");
        form = (vb.assign (vb.word
            (codes "n") suffix.Absent) (vb.word (codes "a") suffix.Absent));
      });
      bindings = (record {
        exprs = ((bound.typed types.long
            (bound.variable (record { 0 = 1 }) false)) ∷ (bound.typed types.long (bound.call (record { 0 = 1 }) false (bound.of_object
            (bound.typed (types.class 0) (bound.variable (record { 0 = 0 }) false))) bound.no_passed)) ∷ []);
        rules = (record {
          bits
              = 0;
        });
        mentions = ((mention.Var (record { 0 = 1 })) ∷ (mention.Proc (record { 0 = 1 })) ∷ (mention.Var (record {
          0 =
              0;
        })) ∷ []);
      });
    }) ∷
    (record {
      source = (record {
        place = (record { file = 1; line = 6 });
        text = (codes "a = n + 1");
        form = (vb.assign (vb.word
            (codes "a") suffix.Absent) (vb.binary bin.Add (vb.word (codes "n") suffix.Absent) (vb.lit (literal.Int (pos 1) false))));
      });
      bindings = (record {
        exprs = ((bound.typed types.long (bound.call (record { 0 = 2 }) false (bound.of_object (bound.typed
            (types.class 0) (bound.variable (record { 0 = 0 }) false))) bound.no_passed)) ∷ (bound.typed types.long (bound.binary
            bin.Add (bound.typed types.long (bound.variable (record { 0 = 1 }) false)) (bound.typed types.long (bound.convert types.long
            (bound.typed types.integer (bound.constant (value.Int (pos 1)) origin.Literal)))))) ∷ []);
        rules = (record {
          bits = 0;
        });
        mentions = ((mention.Proc (record { 0 = 2 })) ∷ (mention.Var (record { 0 = 0 })) ∷ (mention.Var (record { 0 = 1 }))
            ∷ []);
      });
    }) ∷
    (record {
      source = (record {
        place = (record { file = 1; line = 7 });
        text = (68 ∷ 101 ∷ 98 ∷ 117 ∷ 103 ∷ 46 ∷ 80 ∷ 114
            ∷ 105 ∷ 110 ∷ 116 ∷ 32 ∷ 97 ∷ 59 ∷ 32 ∷ 110 ∷ 59 ∷ 32 ∷ 97 ∷ 32 ∷ 38 ∷ 32 ∷ 34 ∷ 120 ∷ 34 ∷ []);
        form = (vb.debug_print
            ((vb.word (codes "a") suffix.Absent) ∷ (vb.word (codes "n") suffix.Absent) ∷ (vb.binary bin.Concat (vb.word (codes "a")
            suffix.Absent) (vb.lit (literal.Str (codes "x")))) ∷ []) false);
      });
      bindings = (record {
        exprs = ((bound.typed types.long
            (bound.call (record { 0 = 1 }) false (bound.of_object (bound.typed (types.class 0) (bound.variable (record { 0 = 0 })
            false))) bound.no_passed)) ∷ (bound.typed types.long (bound.variable (record { 0 = 1 }) false)) ∷ (bound.typed types.str
            (bound.binary bin.Concat (bound.typed types.str (bound.convert types.str (bound.typed types.long (bound.call (record {
              0 = 1;
            }) false (bound.of_object (bound.typed (types.class 0) (bound.variable (record { 0 = 0 }) false))) bound.no_passed))))
            (bound.typed types.str (bound.constant (value.Str (codes "x")) origin.Literal)))) ∷ []);
        rules = (record { bits = 0 });
        mentions = ((mention.Proc (record { 0 = 1 })) ∷ (mention.Var (record { 0 = 0 })) ∷ (mention.Var (record { 0 = 1 })) ∷
            (mention.Proc (record { 0 = 1 })) ∷ (mention.Var (record { 0 = 0 })) ∷ []);
      });
    }) ∷ [])

abbrev pub body_1 : List bound.Line
body_1 = (
    (record {
      source = (record {
        place = (record { file = 2; line = 8 });
        text = (68 ∷ 101 ∷ 98 ∷ 117 ∷ 103 ∷ 46 ∷ 80 ∷ 114
            ∷ 105 ∷ 110 ∷ 116 ∷ 32 ∷ 34 ∷ 103 ∷ 101 ∷ 116 ∷ 34 ∷ []);
        form = (vb.debug_print ((vb.lit (literal.Str (codes "get")))
            ∷ []) false);
      });
      bindings = (record {
        exprs = ((bound.typed types.str (bound.constant (value.Str (codes "get")) origin.Literal))
            ∷ []);
        rules = (record { bits = 0 });
        mentions = ([]);
      });
    }) ∷
    (record {
      source = (record {
        place = (record { file = 2; line = 9 });
        text = (codes "Value = m");
        form = (vb.assign (vb.word
            (codes "Value") suffix.Absent) (vb.word (codes "m") suffix.Absent));
      });
      bindings = (record {
        exprs = ((bound.typed types.long
            (bound.variable (record { 0 = 3 }) false)) ∷ (bound.typed types.long (bound.variable (record { 0 = 2 }) false)) ∷ []);
        rules = (record { bits = 0 });
        mentions = ((mention.Var (record { 0 = 3 })) ∷ (mention.Var (record { 0 = 2 })) ∷ []);
      });
    }) ∷ [])

abbrev pub body_2 : List bound.Line
body_2 = (
    (record {
      source = (record {
        place = (record { file = 2; line = 13 });
        text = (68 ∷ 101 ∷ 98 ∷ 117 ∷ 103 ∷ 46 ∷ 80 ∷ 114
            ∷ 105 ∷ 110 ∷ 116 ∷ 32 ∷ 34 ∷ 108 ∷ 101 ∷ 116 ∷ 34 ∷ []);
        form = (vb.debug_print ((vb.lit (literal.Str (codes "let")))
            ∷ []) false);
      });
      bindings = (record {
        exprs = ((bound.typed types.str (bound.constant (value.Str (codes "let")) origin.Literal))
            ∷ []);
        rules = (record { bits = 0 });
        mentions = ([]);
      });
    }) ∷
    (record {
      source = (record {
        place = (record { file = 2; line = 14 });
        text = (codes "m = v");
        form = (vb.assign (vb.word
            (codes "m") suffix.Absent) (vb.word (codes "v") suffix.Absent));
      });
      bindings = (record {
        exprs = ((bound.typed types.long
            (bound.variable (record { 0 = 2 }) false)) ∷ (bound.typed types.long (bound.variable (record { 0 = 4 }) false)) ∷ []);
        rules = (record { bits = 0 });
        mentions = ((mention.Var (record { 0 = 2 })) ∷ (mention.Var (record { 0 = 4 })) ∷ []);
      });
    }) ∷ [])

abbrev pub bodies : List (List bound.Line)
bodies = body_0 ∷ body_1 ∷ body_2 ∷ []

abbrev pub program : bound.Program
program = record { declarations = declarations; bodies = bodies }

abbrev pub quiet : List (List Bool)
quiet = (([]) ∷ ([]) ∷ (false ∷ []) ∷ [])

abbrev pub lows : List (VarId × ℤ × ℤ)
lows = ([])

abbrev pub clean : List Bool
clean = (true ∷ true ∷ true ∷ [])

abbrev pub written : net.Project
written = (record {
  library = false;
  main = (Some (codes "Main1"));
  note = None;
  modules = ((record {
    name = (codes "Main1");
    class = false;
    members = (
        (net.proc (record {
          head = (net.sub net_visible.Public (codes "Main") ([]));
          prologue = (
              (net.local (record { name = (codes "a"); ty = (net_types.named ((codes "Cell") ∷ [])); value = None })) ∷
              (net.local (record { name = (codes "n"); ty = net_types.integer; value = None })) ∷ []);
          lines = (
              (net.assign (net.path ((codes "a") ∷ [])) (net.new_object (net_types.named ((codes "Cell") ∷ [])) net.no_exps)) ∷
              (net.assign (net.path ((codes "a") ∷ (codes "Value") ∷ [])) (net.lit (net.integer (pos 5) false))) ∷
              (net.assign (net.path ((codes "n") ∷ [])) (net.path ((codes "a") ∷ (codes "Value") ∷ []))) ∷
              (net.assign (net.path ((codes "a") ∷ (codes "Value") ∷ [])) (net.binary net_bin.Add (net.path ((codes "n") ∷ [])) (net.lit
              (net.integer (pos 1) false)))) ∷
              (net.call (net.path ((codes "UpgradeSupport") ∷ (codes "PrintLine") ∷ [])) (net.next_exp (net.binary net_bin.Concat (net.binary
              net_bin.Concat (net.call_of (net.path ((codes "UpgradeSupport") ∷ (codes "PrintNum") ∷ [])) (net.next_exp (net.cast cast.CDec
              (net.path ((codes "a") ∷ (codes "Value") ∷ []))) net.no_exps)) (net.call_of (net.path ((codes "UpgradeSupport") ∷ (codes
              "PrintNum") ∷ [])) (net.next_exp (net.cast cast.CDec (net.path ((codes "n") ∷ []))) net.no_exps))) (net.binary net_bin.Concat
              (net.cast cast.CStr (net.path ((codes "a") ∷ (codes "Value") ∷ []))) (net.lit (net.str (codes "x"))))) net.no_exps)) ∷
              []);
          close = close.EndSub;
        })) ∷ []);
  }) ∷ (record {
    name = (codes "Cell");
    class = true;
    members = (
        (net.variable net_visible.Private (record { name = (codes "m"); ty = net_types.integer; value = None })) ∷
        (net.property (record {
          visibility = net_visible.Public;
          name = (codes "Value");
          params = ([]);
          ty = net_types.integer;
          get_comments = ([]);
          get = (Some (record {
            head = net.get_part;
            prologue = ([]);
            lines = (
                (net.call (net.path ((codes "UpgradeSupport") ∷ (codes "PrintLine") ∷ [])) (net.next_exp (net.lit (net.str (codes "get")))
                net.no_exps)) ∷
                (net.assign (net.path ((codes "Value") ∷ [])) (net.path ((codes "m") ∷ []))) ∷ []);
            close = close.EndGet;
          }));
          set_comments
              = ([]);
          set = (Some (record {
            head = (net.set_part (codes "v") net_types.integer);
            prologue = ([]);
            lines = (
                (net.call (net.path ((codes "UpgradeSupport") ∷ (codes "PrintLine") ∷ [])) (net.next_exp (net.lit (net.str (codes "let")))
                net.no_exps)) ∷
                (net.assign (net.path ((codes "m") ∷ [])) (net.path ((codes "v") ∷ []))) ∷ []);
            close = close.EndSet;
          }));
        })) ∷ []);
  })
      ∷ []);
  support = (record {
    name = (codes "UpgradeSupport");
    class = false;
    members = (
        (net.proc (record {
          head = (net.sub net_visible.Public (codes "PrintLine") ((record {
            passing = net_passing.Value;
            name
                = (codes "s");
            ty = net_types.str;
          }) ∷ []));
          prologue = ([]);
          lines = (
              (net.call (net.path ((codes "System") ∷ (codes "Console") ∷ (codes "WriteLine") ∷ [])) (net.next_exp (net.path ((codes
              "s") ∷ [])) net.no_exps)) ∷ []);
          close = close.EndSub;
        })) ∷
        (net.proc (record {
          head = (net.function net_visible.Public (codes "CurText") ((record {
            passing = net_passing.Value;
            name = (codes "d");
            ty = net_types.decimal;
          }) ∷ []) net_types.str);
          prologue = ([]);
          lines = (
              (net.assign (net.path ((codes "CurText") ∷ [])) (net.call_of (net.path ((codes "d") ∷ (codes "ToString") ∷ [])) (net.next_exp
              (net.lit (net.str (codes "0.####"))) (net.next_exp (net.path ((codes "System") ∷ (codes "Globalization") ∷ (codes "CultureInfo")
              ∷ (codes "InvariantCulture") ∷ [])) net.no_exps)))) ∷ []);
          close = close.EndFunction;
        })) ∷
        (net.proc (record {
          head = (net.function net_visible.Public (codes "PrintNum") ((record {
            passing = net_passing.Value;
            name = (codes "d");
            ty = net_types.decimal;
          }) ∷ []) net_types.str);
          prologue = ([]);
          lines = (
              (net.if_head (net.binary net_bin.Less (net.path ((codes "d") ∷ [])) (net.lit (net.decimal (pos 0))))) ∷
              (net.assign (net.path ((codes "PrintNum") ∷ [])) (net.binary net_bin.Concat (net.call_of (net.path ((codes "CurText")
              ∷ [])) (net.next_exp (net.path ((codes "d") ∷ [])) net.no_exps)) (net.lit (net.str (codes " "))))) ∷
              net.else_line ∷
              (net.assign (net.path ((codes "PrintNum") ∷ [])) (net.binary net_bin.Concat (net.binary net_bin.Concat (net.lit (net.str
              (codes " "))) (net.call_of (net.path ((codes "CurText") ∷ [])) (net.next_exp (net.path ((codes "d") ∷ [])) net.no_exps)))
              (net.lit (net.str (codes " "))))) ∷
              net.end_if ∷ []);
          close = close.EndFunction;
        })) ∷ []);
  });
})

abbrev pub runnable : Runnable
runnable = runnable_of program quiet lows

said : ran runnable 0 2000 ≡ (
  line (codes "let")
      ++ line (codes "get")
      ++ line (codes "let")
      ++ line (codes "get")
      ++ line (codes "get")
      ++ line (codes " 6  5 6x"),
  ended,
)
unfolding digits
said = refl
