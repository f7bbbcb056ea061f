-- The program lines-of-every-kind, what it puts out and how it ends.
use Rattle.std.proofs.Common.{◌≡◌, refl, ◌++◌, List, ℤ, pos, negsuc, Bool, true, false, [], ◌∷◌, codes, Some, None}
use Rattle.vb_tree.specs.declared.declared.VarId.{VarId}
use Rattle.bound_tree.specs.Tree as bound
use Rattle.net_tree.specs.Tree as net
use Rattle.net_tree.specs.Types as net_types
use Rattle.vb_tree.specs.BoundTree as types
use Rattle.vb_tree.specs.Tree as vb
use Rattle.vb_tree.specs.declared.expression.BinOp.TheVariants as bin
use Rattle.net_tree.specs.declared.expression.CastWord.TheVariants as cast
use Rattle.net_tree.specs.declared.declaration.NetClose.TheVariants as close
use Rattle.vb_tree.specs.declared.declared.ProcKind.TheVariants as kind
use Rattle.vb_tree.specs.declared.form_parts.Label6.TheVariants as label
use Rattle.vb_tree.specs.declared.form_parts.ExitKind.TheVariants as leaving
use Rattle.vb_tree.specs.declared.token.Literal6.TheVariants as literal
use Rattle.bound_tree.specs.declared.body.Mention.TheVariants as mention
use Rattle.bound_tree.specs.declared.declared.Named.TheVariants as named
use Rattle.net_tree.specs.declared.expression.NetBin.TheVariants as net_bin
use Rattle.net_tree.specs.declared.line.NetExit.TheVariants as net_exit
use Rattle.net_tree.specs.declared.line.NetLabel.TheVariants as net_label
use Rattle.net_tree.specs.declared.declaration.NetPassing.TheVariants as net_passing
use Rattle.net_tree.specs.declared.declaration.NetVisibility.TheVariants as net_visible
use Rattle.bound_tree.specs.declared.expression.Origin.TheVariants as origin
use Rattle.vb_tree.specs.declared.declared.Owner.TheVariants as owner
use Rattle.vb_tree.specs.declared.project.ProjectKind.TheVariants as project_kind
use Rattle.bound_tree.specs.declared.declared.Scope.TheVariants as scope
use Rattle.vb_tree.specs.declared.token.Suffix.TheVariants as suffix
use Rattle.vb_tree.specs.declared.expression.UnOp.TheVariants as un
use Rattle.vb_tree.specs.declared.value.Value6.TheVariants as value
use Rattle.vb_tree.specs.declared.form_parts.VarWord.TheVariants as var
use Rattle.vb_tree.specs.declared.form_parts.Visibility.TheVariants as visible
use Rattle.std.specs.Fmt.{digits}
use Rattle.example_runs.proofs.Said.{ended, line, ran, ran_written, runnable_of}
use Rattle.vb6_run.specs.Runnables.{Runnable}

abbrev pub project : vb.Project
project = (record {
  file = (record {
    kind = project_kind.Exe;
    startup = (Some (4, (codes "Sub Main")));
    entries = ((record
        { line = 2; class = false; name = (codes "Main1"); file = (codes "Main1.bas") }) ∷ (record {
          line = 3;
          class = false;
          name = (codes "Other");
          file = (codes "Other.bas");
        }) ∷ []);
    dropped = ([]);
  });
  modules = ((record {
    file = 1;
    name =
        (codes "Main1");
    class = false;
    members = (
        (vb.group (record {
          place = (record { file = 1; line = 1 });
          text = (codes "Private Type Item");
          form = (vb.type_head
              (Some visible.Private) (codes "Item") suffix.Absent);
        }) ((record {
          place = (record { file = 1; line = 2 });
          text = (codes
              "Name1 As String * 3");
          form = (vb.field (codes "Name1") suffix.Absent None (vb.fixed_string (vb.lit (literal.Int (pos
              3) false))));
        }) ∷ (record {
          place = (record { file = 1; line = 3 });
          text = (codes "Qty As Long");
          form = (vb.field (codes
              "Qty") suffix.Absent None (vb.named (codes "Long")));
        }) ∷ []) (record {
          place = (record { file = 1; line = 4 });
          text
              = (codes "End Type");
          form = vb.end_type;
        })) ∷
        (vb.proc (record {
          place = (record { file = 1; line = 6 });
          text = (codes "Sub Jumps()");
          form = (vb.sub_head (record
              { visibility = None; name = (codes "Jumps"); suffix = suffix.Absent; params = ([]) }));
        }) (vb.next_node
        (vb.line (record {
          place = (record { file = 1; line = 7 });
          text = (codes "Dim i As Long, n As Long");
          form = (vb.variables
              var.Dim ((record {
                name = (codes "i");
                suffix = suffix.Absent;
                bounds = None;
                auto = false;
                ty = (Some (vb.named (codes
                    "Long")));
              }) ∷ (record {
                name = (codes "n");
                suffix = suffix.Absent;
                bounds = None;
                auto = false;
                ty = (Some (vb.named
                    (codes "Long")));
              }) ∷ []));
        })) (vb.next_node
        (vb.line (record {
          place = (record { file = 1; line = 8 });
          text = (codes "On Error GoTo 0");
          form = vb.on_error_goto_zero;
        })) (vb.next_node
        (vb.line (record {
          place = (record { file = 1; line = 9 });
          text = (codes "Again");
          form = (vb.label (label.Word (codes
              "Again")));
        })) (vb.next_node
        (vb.line (record {
          place = (record { file = 1; line = 10 });
          text = (codes "n = n + 1");
          form = (vb.assign (vb.word
              (codes "n") suffix.Absent) (vb.binary bin.Add (vb.word (codes "n") suffix.Absent) (vb.lit (literal.Int (pos 1) false))));
        })) (vb.next_node
        (vb.block (record {
          place = (record { file = 1; line = 11 });
          text = (codes "If n < 3 Then");
          form = (vb.line_if (vb.binary
              bin.Less (vb.word (codes "n") suffix.Absent) (vb.lit (literal.Int (pos 3) false))));
        }) (vb.next_node
        (vb.line (record {
          place = (record { file = 1; line = 11 });
          text = (codes "GoTo Again");
          form = (vb.goto (label.Word
              (codes "Again")));
        })) vb.no_nodes) vb.no_middles (record {
          place = (record { file = 1; line = 11 });
          text = (codes "End If");
          form = vb.end_if;
        })) (vb.next_node
        (vb.block (record {
          place = (record { file = 1; line = 12 });
          text = (codes "For i = 1 To 3");
          form = (vb.for_head (vb.word
              (codes "i") suffix.Absent) (vb.lit (literal.Int (pos 1) false)) (vb.lit (literal.Int (pos 3) false)) None);
        }) (vb.next_node
        (vb.line (record {
          place = (record { file = 1; line = 13 });
          text = (codes "n = 0");
          form = (vb.assign (vb.word (codes
              "n") suffix.Absent) (vb.lit (literal.Int (pos 0) false)));
        })) (vb.next_node
        (vb.block (record { place = (record { file = 1; line = 14 }); text = (codes "Do"); form = vb.do_head }) (vb.next_node
        (vb.line (record {
          place = (record { file = 1; line = 15 });
          text = (codes "n = n + 1");
          form = (vb.assign (vb.word
              (codes "n") suffix.Absent) (vb.binary bin.Add (vb.word (codes "n") suffix.Absent) (vb.lit (literal.Int (pos 1) false))));
        })) (vb.next_node
        (vb.block (record {
          place = (record { file = 1; line = 16 });
          text = (codes "If n = 2 Then");
          form = (vb.line_if (vb.binary
              bin.Equal (vb.word (codes "n") suffix.Absent) (vb.lit (literal.Int (pos 2) false))));
        }) (vb.next_node
        (vb.line (record { place = (record { file = 1; line = 16 }); text = (codes "Exit Do"); form = (vb.exit leaving.Do) }))
        vb.no_nodes) vb.no_middles (record {
          place = (record { file = 1; line = 16 });
          text = (codes "End If");
          form = vb.end_if;
        })) (vb.next_node
        (vb.block (record {
          place = (record { file = 1; line = 17 });
          text = (codes "If i = 3 Then");
          form = (vb.line_if (vb.binary
              bin.Equal (vb.word (codes "i") suffix.Absent) (vb.lit (literal.Int (pos 3) false))));
        }) (vb.next_node
        (vb.line (record {
          place = (record { file = 1; line = 17 });
          text = (codes "Exit For");
          form = (vb.exit leaving.For);
        })) vb.no_nodes) vb.no_middles (record {
          place = (record { file = 1; line = 17 });
          text = (codes "End If");
          form = vb.end_if;
        })) vb.no_nodes))) vb.no_middles (record {
          place = (record { file = 1; line = 18 });
          text = (codes "Loop");
          form = vb.loop;
        })) (vb.next_node
        (vb.line (record {
          place = (record { file = 1; line = 19 });
          text = (codes "Debug.Print i; n");
          form = (vb.debug_print
              ((vb.word (codes "i") suffix.Absent) ∷ (vb.word (codes "n") suffix.Absent) ∷ []) false);
        })) vb.no_nodes))) vb.no_middles
        (record {
          place = (record { file = 1; line = 20 });
          text = (codes "Next i");
          form = (vb.next (Some ((codes "i"), suffix.Absent)));
        })) (vb.next_node
        (vb.block (record {
          place = (record { file = 1; line = 21 });
          text = (codes "Do While n < 5");
          form = (vb.do_while (vb.binary
              bin.Less (vb.word (codes "n") suffix.Absent) (vb.lit (literal.Int (pos 5) false))));
        }) (vb.next_node
        (vb.line (record {
          place = (record { file = 1; line = 22 });
          text = (codes "n = n + 1");
          form = (vb.assign (vb.word
              (codes "n") suffix.Absent) (vb.binary bin.Add (vb.word (codes "n") suffix.Absent) (vb.lit (literal.Int (pos 1) false))));
        })) vb.no_nodes) vb.no_middles (record {
          place = (record { file = 1; line = 23 });
          text = (codes "Loop");
          form = vb.loop;
        })) (vb.next_node
        (vb.block (record {
          place = (record { file = 1; line = 24 });
          text = (codes "Do Until n = 7");
          form = (vb.do_until (vb.binary
              bin.Equal (vb.word (codes "n") suffix.Absent) (vb.lit (literal.Int (pos 7) false))));
        }) (vb.next_node
        (vb.line (record {
          place = (record { file = 1; line = 25 });
          text = (codes "n = n + 1");
          form = (vb.assign (vb.word
              (codes "n") suffix.Absent) (vb.binary bin.Add (vb.word (codes "n") suffix.Absent) (vb.lit (literal.Int (pos 1) false))));
        })) vb.no_nodes) vb.no_middles (record {
          place = (record { file = 1; line = 26 });
          text = (codes "Loop");
          form = vb.loop;
        })) (vb.next_node
        (vb.block (record { place = (record { file = 1; line = 27 }); text = (codes "Do"); form = vb.do_head }) (vb.next_node
        (vb.line (record {
          place = (record { file = 1; line = 28 });
          text = (codes "n = n + 1");
          form = (vb.assign (vb.word
              (codes "n") suffix.Absent) (vb.binary bin.Add (vb.word (codes "n") suffix.Absent) (vb.lit (literal.Int (pos 1) false))));
        })) vb.no_nodes) vb.no_middles (record {
          place = (record { file = 1; line = 29 });
          text = (codes "Loop While n < 9");
          form = (vb.loop_while (vb.binary bin.Less (vb.word (codes "n") suffix.Absent) (vb.lit (literal.Int (pos 9) false))));
        }))
        (vb.next_node
        (vb.block (record { place = (record { file = 1; line = 30 }); text = (codes "Do"); form = vb.do_head }) (vb.next_node
        (vb.line (record {
          place = (record { file = 1; line = 31 });
          text = (codes "n = n + 1");
          form = (vb.assign (vb.word
              (codes "n") suffix.Absent) (vb.binary bin.Add (vb.word (codes "n") suffix.Absent) (vb.lit (literal.Int (pos 1) false))));
        })) vb.no_nodes) vb.no_middles (record {
          place = (record { file = 1; line = 32 });
          text = (codes "Loop Until n >= 11");
          form = (vb.loop_until (vb.binary bin.GreaterEqual (vb.word (codes "n") suffix.Absent) (vb.lit (literal.Int (pos 11) false))));
        })) (vb.next_node
        (vb.block (record {
          place = (record { file = 1; line = 33 });
          text = (codes "Select Case n");
          form = (vb.select (vb.word
              (codes "n") suffix.Absent));
        }) vb.no_nodes (vb.next_middle (record {
          place = (record { file = 1; line = 34 });
          text =
              (codes "Case 1");
          form = (vb.case_line ((vb.case_value (vb.lit (literal.Int (pos 1) false))) ∷ []));
        }) (vb.next_node
        (vb.line (record {
          place = (record { file = 1; line = 35 });
          text = (68 ∷ 101 ∷ 98 ∷ 117 ∷ 103 ∷ 46 ∷ 80 ∷ 114 ∷ 105
              ∷ 110 ∷ 116 ∷ 32 ∷ 34 ∷ 111 ∷ 110 ∷ 101 ∷ 34 ∷ []);
          form = (vb.debug_print ((vb.lit (literal.Str (codes "one"))) ∷ [])
              false);
        })) vb.no_nodes) (vb.next_middle (record {
          place = (record { file = 1; line = 36 });
          text = (codes "Case Else");
          form = vb.case_else;
        }) (vb.next_node
        (vb.line (record {
          place = (record { file = 1; line = 37 });
          text = (68 ∷ 101 ∷ 98 ∷ 117 ∷ 103 ∷ 46 ∷ 80 ∷ 114 ∷ 105
              ∷ 110 ∷ 116 ∷ 32 ∷ 34 ∷ 101 ∷ 108 ∷ 115 ∷ 101 ∷ 34 ∷ 59 ∷ 32 ∷ 110 ∷ []);
          form = (vb.debug_print ((vb.lit (literal.Str
              (codes "else"))) ∷ (vb.word (codes "n") suffix.Absent) ∷ []) false);
        })) vb.no_nodes) vb.no_middles)) (record {
          place =
              (record { file = 1; line = 38 });
          text = (codes "End Select");
          form = vb.end_select;
        })) vb.no_nodes))))))))))) (record
        { place = (record { file = 1; line = 39 }); text = (codes "End Sub"); form = vb.end_sub })) ∷
        (vb.proc (record {
          place = (record { file = 1; line = 41 });
          text = (codes "Sub Texts()");
          form = (vb.sub_head (record
              { visibility = None; name = (codes "Texts"); suffix = suffix.Absent; params = ([]) }));
        }) (vb.next_node
        (vb.line (record {
          place = (record { file = 1; line = 42 });
          text = (codes "Dim a As Item, b As Item");
          form = (vb.variables
              var.Dim ((record {
                name = (codes "a");
                suffix = suffix.Absent;
                bounds = None;
                auto = false;
                ty = (Some (vb.named (codes
                    "Item")));
              }) ∷ (record {
                name = (codes "b");
                suffix = suffix.Absent;
                bounds = None;
                auto = false;
                ty = (Some (vb.named
                    (codes "Item")));
              }) ∷ []));
        })) (vb.next_node
        (vb.line (record {
          place = (record { file = 1; line = 43 });
          text = (97 ∷ 46 ∷ 78 ∷ 97 ∷ 109 ∷ 101 ∷ 49 ∷ 32 ∷ 61 ∷
              32 ∷ 34 ∷ 97 ∷ 98 ∷ 99 ∷ 100 ∷ 34 ∷ []);
          form = (vb.assign (vb.member (vb.word (codes "a") suffix.Absent) (codes "Name1"))
              (vb.lit (literal.Str (codes "abcd"))));
        })) (vb.next_node
        (vb.line (record {
          place = (record { file = 1; line = 44 });
          text = (codes "a.Qty = 1");
          form = (vb.assign (vb.member
              (vb.word (codes "a") suffix.Absent) (codes "Qty")) (vb.lit (literal.Int (pos 1) false)));
        })) (vb.next_node
        (vb.line (record {
          place = (record { file = 1; line = 45 });
          text = (codes "b = a");
          form = (vb.assign (vb.word (codes
              "b") suffix.Absent) (vb.word (codes "a") suffix.Absent));
        })) (vb.next_node
        (vb.line (record {
          place = (record { file = 1; line = 46 });
          text = (codes "b.Qty = 2");
          form = (vb.assign (vb.member
              (vb.word (codes "b") suffix.Absent) (codes "Qty")) (vb.lit (literal.Int (pos 2) false)));
        })) (vb.next_node
        (vb.line (record {
          place = (record { file = 1; line = 47 });
          text = (codes "Debug.Print a.Name1; a.Qty; b.Name1; b.Qty");
          form = (vb.debug_print ((vb.member (vb.word (codes "a") suffix.Absent) (codes "Name1")) ∷ (vb.member (vb.word (codes "a")
              suffix.Absent) (codes "Qty")) ∷ (vb.member (vb.word (codes "b") suffix.Absent) (codes "Name1")) ∷ (vb.member (vb.word
              (codes "b") suffix.Absent) (codes "Qty")) ∷ []) false);
        })) vb.no_nodes)))))) (record {
          place = (record {
            file = 1;
            line
                = 48;
          });
          text = (codes "End Sub");
          form = vb.end_sub;
        })) ∷
        (vb.proc (record {
          place = (record { file = 1; line = 50 });
          text = (codes "Sub Main()");
          form = (vb.sub_head (record
              { visibility = None; name = (codes "Main"); suffix = suffix.Absent; params = ([]) }));
        }) (vb.next_node
        (vb.line (record {
          place = (record { file = 1; line = 51 });
          text = (codes "On Error GoTo Fail");
          form = (vb.on_error_goto
              (label.Word (codes "Fail")));
        })) (vb.next_node
        (vb.line (record {
          place = (record { file = 1; line = 52 });
          text = (codes "Jumps");
          form = (vb.invoke (vb.word (codes
              "Jumps") suffix.Absent) vb.no_args);
        })) (vb.next_node
        (vb.line (record {
          place = (record { file = 1; line = 53 });
          text = (codes "Texts");
          form = (vb.invoke (vb.word (codes
              "Texts") suffix.Absent) vb.no_args);
        })) (vb.next_node
        (vb.line (record {
          place = (record { file = 1; line = 54 });
          text = (codes "Debug.Print Other.Low; High");
          form = (vb.debug_print
              ((vb.member (vb.word (codes "Other") suffix.Absent) (codes "Low")) ∷ (vb.word (codes "High") suffix.Absent) ∷ []) false);
        })) (vb.next_node
        (vb.line (record {
          place = (record { file = 1; line = 55 });
          text = (codes "Err.Raise 7");
          form = (vb.invoke (vb.member
              (vb.word (codes "Err") suffix.Absent) (codes "Raise")) (vb.next_arg None false (vb.given (vb.lit (literal.Int (pos 7)
              false))) vb.no_args));
        })) (vb.next_node
        (vb.line (record {
          place = (record { file = 1; line = 56 });
          text = (68 ∷ 101 ∷ 98 ∷ 117 ∷ 103 ∷ 46 ∷ 80 ∷ 114 ∷ 105
              ∷ 110 ∷ 116 ∷ 32 ∷ 34 ∷ 110 ∷ 101 ∷ 118 ∷ 101 ∷ 114 ∷ 34 ∷ []);
          form = (vb.debug_print ((vb.lit (literal.Str (codes "never")))
              ∷ []) false);
        })) (vb.next_node
        (vb.line (record {
          place = (record { file = 1; line = 57 });
          text = (codes "Done");
          form = (vb.label (label.Word (codes
              "Done")));
        })) (vb.next_node
        (vb.line (record {
          place = (record { file = 1; line = 58 });
          text = (codes "On Error GoTo 0");
          form = vb.on_error_goto_zero;
        })) (vb.next_node
        (vb.line (record {
          place = (record { file = 1; line = 59 });
          text = (68 ∷ 101 ∷ 98 ∷ 117 ∷ 103 ∷ 46 ∷ 80 ∷ 114 ∷ 105
              ∷ 110 ∷ 116 ∷ 32 ∷ 34 ∷ 100 ∷ 111 ∷ 110 ∷ 101 ∷ 34 ∷ 59 ∷ 32 ∷ 69 ∷ 114 ∷ 114 ∷ 46 ∷ 78 ∷ 117 ∷ 109 ∷ 98 ∷ 101 ∷ 114 ∷
              []);
          form = (vb.debug_print ((vb.lit (literal.Str (codes "done"))) ∷ (vb.member (vb.word (codes "Err") suffix.Absent)
              (codes "Number")) ∷ []) false);
        })) (vb.next_node
        (vb.line (record {
          place = (record { file = 1; line = 60 });
          text = (codes "Exit Sub");
          form = (vb.exit leaving.Sub);
        })) (vb.next_node
        (vb.line (record {
          place = (record { file = 1; line = 61 });
          text = (codes "Fail");
          form = (vb.label (label.Word (codes
              "Fail")));
        })) (vb.next_node
        (vb.line (record {
          place = (record { file = 1; line = 62 });
          text = (68 ∷ 101 ∷ 98 ∷ 117 ∷ 103 ∷ 46 ∷ 80 ∷ 114 ∷ 105
              ∷ 110 ∷ 116 ∷ 32 ∷ 34 ∷ 101 ∷ 114 ∷ 114 ∷ 111 ∷ 114 ∷ 34 ∷ 59 ∷ 32 ∷ 69 ∷ 114 ∷ 114 ∷ 46 ∷ 78 ∷ 117 ∷ 109 ∷ 98 ∷ 101 ∷
              114 ∷ []);
          form = (vb.debug_print ((vb.lit (literal.Str (codes "error"))) ∷ (vb.member (vb.word (codes "Err") suffix.Absent)
              (codes "Number")) ∷ []) false);
        })) (vb.next_node
        (vb.line (record {
          place = (record { file = 1; line = 63 });
          text = (codes "Resume Done");
          form = (vb.resume_at (label.Word
              (codes "Done")));
        })) vb.no_nodes))))))))))))) (record {
          place = (record { file = 1; line = 64 });
          text = (codes "End Sub");
          form = vb.end_sub;
        })) ∷ []);
    comments = ([]);
  }) ∷ (record {
    file = 2;
    name = (codes "Other");
    class = false;
    members =
        (
        (vb.group (record {
          place = (record { file = 2; line = 1 });
          text = (codes "Public Enum Kinds");
          form = (vb.enum_head
              (Some visible.Public) (codes "Kinds") suffix.Absent);
        }) ((record {
          place = (record { file = 2; line = 2 });
          text = (codes
              "Low = -1");
          form = (vb.enum_member (codes "Low") suffix.Absent (Some (vb.unary un.Neg (vb.lit (literal.Int (pos 1) false)))));
        }) ∷ (record {
          place = (record { file = 2; line = 3 });
          text = (codes "High = 9");
          form = (vb.enum_member (codes "High")
              suffix.Absent (Some (vb.lit (literal.Int (pos 9) false))));
        }) ∷ []) (record {
          place = (record { file = 2; line = 4 });
          text = (codes "End Enum");
          form = vb.end_enum;
        })) ∷ []);
    comments = ([]);
  }) ∷ []);
})

abbrev pub declarations : bound.Declarations
declarations = (record {
  project = project;
  names = (
      (record { name = (codes "Item"); scope = (scope.Private 1); named = (named.Type (record { 0 = 0 })) }) ∷
      (record { name = (codes "Jumps"); scope = (scope.Public 1); named = (named.Proc (record { 0 = 0 })) }) ∷
      (record { name = (codes "i"); scope = (scope.Local (record { 0 = 0 })); named = (named.Var (record { 0 = 2 })) }) ∷
      (record { name = (codes "n"); scope = (scope.Local (record { 0 = 0 })); named = (named.Var (record { 0 = 3 })) }) ∷
      (record { name = (codes "Texts"); scope = (scope.Public 1); named = (named.Proc (record { 0 = 1 })) }) ∷
      (record { name = (codes "a"); scope = (scope.Local (record { 0 = 1 })); named = (named.Var (record { 0 = 4 })) }) ∷
      (record { name = (codes "b"); scope = (scope.Local (record { 0 = 1 })); named = (named.Var (record { 0 = 5 })) }) ∷
      (record { name = (codes "Main"); scope = (scope.Public 1); named = (named.Proc (record { 0 = 2 })) }) ∷
      (record { name = (codes "Kinds"); scope = (scope.Public 2); named = (named.Enum (record { 0 = 0 })) }) ∷
      (record { name = (codes "Low"); scope = (scope.Public 2); named = (named.Const (record { 0 = 0 })) }) ∷
      (record { name = (codes "High"); scope = (scope.Public 2); named = (named.Const (record { 0 = 1 })) }) ∷ []);
  vars = (
      (record {
        name = (codes "Name1");
        place = (record { file = 1; line = 2 });
        statement = 1;
        owner = (owner.Field (record
            { 0 = 0 }));
        ty = (types.fixed 3);
        named = (types.fixed 3);
        qualified = false;
        lettered = None;
        bounds = ([]);
        auto =
            false;
        preset = None;
      }) ∷
      (record {
        name = (codes "Qty");
        place = (record { file = 1; line = 3 });
        statement = 2;
        owner = (owner.Field (record {
          0 = 0;
        }));
        ty = types.long;
        named = types.long;
        qualified = false;
        lettered = None;
        bounds = ([]);
        auto = false;
        preset
            = None;
      }) ∷
      (record {
        name = (codes "i");
        place = (record { file = 1; line = 7 });
        statement = 5;
        owner = (owner.Local (record {
          0
              = 0;
        }));
        ty = types.long;
        named = types.long;
        qualified = false;
        lettered = None;
        bounds = ([]);
        auto = false;
        preset
            = None;
      }) ∷
      (record {
        name = (codes "n");
        place = (record { file = 1; line = 7 });
        statement = 5;
        owner = (owner.Local (record {
          0
              = 0;
        }));
        ty = types.long;
        named = types.long;
        qualified = false;
        lettered = None;
        bounds = ([]);
        auto = false;
        preset
            = None;
      }) ∷
      (record {
        name = (codes "a");
        place = (record { file = 1; line = 42 });
        statement = 45;
        owner = (owner.Local (record {
          0 = 1;
        }));
        ty = (types.user 0);
        named = (types.user 0);
        qualified = false;
        lettered = None;
        bounds = ([]);
        auto = false;
        preset = None;
      }) ∷
      (record {
        name = (codes "b");
        place = (record { file = 1; line = 42 });
        statement = 45;
        owner = (owner.Local (record {
          0 = 1;
        }));
        ty = (types.user 0);
        named = (types.user 0);
        qualified = false;
        lettered = None;
        bounds = ([]);
        auto = false;
        preset = None;
      }) ∷ []);
  consts = (
      (record {
        name = (codes "Low");
        place = (record { file = 2; line = 2 });
        statement = 1;
        owner = (owner.Module 2);
        ty =
            types.long;
        value = (Some (value.Long (negsuc 0)));
      }) ∷
      (record {
        name = (codes "High");
        place = (record { file = 2; line = 3 });
        statement = 2;
        owner = (owner.Module 2);
        ty
            = types.long;
        value = (Some (value.Long (pos 9)));
      }) ∷ []);
  procs = (
      (record {
        name = (codes "Jumps");
        place = (record { file = 1; line = 6 });
        module_number = 1;
        kind = kind.Sub;
        visibility
            = visible.Public;
        params = ([]);
        result = types.nothing;
        answer = None;
        first = (record { 0 = 0 });
      }) ∷
      (record {
        name = (codes "Texts");
        place = (record { file = 1; line = 41 });
        module_number = 1;
        kind = kind.Sub;
        visibility
            = visible.Public;
        params = ([]);
        result = types.nothing;
        answer = None;
        first = (record { 0 = 1 });
      }) ∷
      (record {
        name = (codes "Main");
        place = (record { file = 1; line = 50 });
        module_number = 1;
        kind = kind.Sub;
        visibility
            = visible.Public;
        params = ([]);
        result = types.nothing;
        answer = None;
        first = (record { 0 = 2 });
      }) ∷ []);
  types = (
      (record {
        name = (codes "Item");
        place = (record { file = 1; line = 1 });
        «module» = 1;
        fields = ((record { 0 = 0 }) ∷
            (record { 0 = 1 }) ∷ []);
      }) ∷ []);
  enums = (
      (record {
        name = (codes "Kinds");
        place = (record { file = 2; line = 1 });
        «module» = 2;
        members = ((record { 0 = 0 })
            ∷ (record { 0 = 1 }) ∷ []);
      }) ∷ []);
  defaults = ([]);
})

abbrev pub body_0 : List bound.Line
body_0 = (
    (record {
      source = (record {
        place = (record { file = 1; line = 8 });
        text = (codes "On Error GoTo 0");
        form = vb.on_error_goto_zero;
      });
      bindings = (record { exprs = ([]); rules = (record { bits = 0 }); mentions = ([]) });
    }) ∷
    (record {
      source = (record {
        place = (record { file = 1; line = 9 });
        text = (codes "Again");
        form = (vb.label (label.Word
            (codes "Again")));
      });
      bindings = (record { exprs = ([]); rules = (record { bits = 0 }); mentions = ([]) });
    }) ∷
    (record {
      source = (record {
        place = (record { file = 1; line = 10 });
        text = (codes "n = n + 1");
        form = (vb.assign (vb.word
            (codes "n") suffix.Absent) (vb.binary bin.Add (vb.word (codes "n") suffix.Absent) (vb.lit (literal.Int (pos 1) false))));
      });
      bindings = (record {
        exprs = ((bound.typed types.long (bound.variable (record { 0 = 3 }) false)) ∷ (bound.typed types.long
            (bound.binary bin.Add (bound.typed types.long (bound.variable (record { 0 = 3 }) false)) (bound.typed types.long (bound.convert
            types.long (bound.typed types.integer (bound.constant (value.Int (pos 1)) origin.Literal)))))) ∷ []);
        rules = (record
            { bits = 0 });
        mentions = ((mention.Var (record { 0 = 3 })) ∷ (mention.Var (record { 0 = 3 })) ∷ []);
      });
    }) ∷
    (record {
      source = (record {
        place = (record { file = 1; line = 11 });
        text = (codes "If n < 3 Then");
        form = (vb.line_if
            (vb.binary bin.Less (vb.word (codes "n") suffix.Absent) (vb.lit (literal.Int (pos 3) false))));
      });
      bindings = (record {
        exprs = ((bound.typed types.boolean (bound.binary bin.Less (bound.typed types.long (bound.variable (record { 0 = 3 })
            false)) (bound.typed types.long (bound.convert types.long (bound.typed types.integer (bound.constant (value.Int (pos 3))
            origin.Literal)))))) ∷ []);
        rules = (record { bits = 0 });
        mentions = ((mention.Var (record { 0 = 3 })) ∷ []);
      });
    }) ∷
    (record {
      source = (record {
        place = (record { file = 1; line = 11 });
        text = (codes "GoTo Again");
        form = (vb.goto (label.Word
            (codes "Again")));
      });
      bindings = (record { exprs = ([]); rules = (record { bits = 0 }); mentions = ([]) });
    }) ∷
    (record {
      source = (record { place = (record { file = 1; line = 11 }); text = (codes "End If"); form = vb.end_if });
      bindings
          = (record { exprs = ([]); rules = (record { bits = 0 }); mentions = ([]) });
    }) ∷
    (record {
      source = (record {
        place = (record { file = 1; line = 12 });
        text = (codes "For i = 1 To 3");
        form = (vb.for_head
            (vb.word (codes "i") suffix.Absent) (vb.lit (literal.Int (pos 1) false)) (vb.lit (literal.Int (pos 3) false)) None);
      });
      bindings = (record {
        exprs = ((bound.typed types.long (bound.variable (record { 0 = 2 }) false)) ∷ (bound.typed types.long
            (bound.convert types.long (bound.typed types.integer (bound.constant (value.Int (pos 1)) origin.Literal)))) ∷ (bound.typed
            types.long (bound.convert types.long (bound.typed types.integer (bound.constant (value.Int (pos 3)) origin.Literal))))
            ∷ []);
        rules = (record { bits = 0 });
        mentions = ((mention.Var (record { 0 = 2 })) ∷ []);
      });
    }) ∷
    (record {
      source = (record {
        place = (record { file = 1; line = 13 });
        text = (codes "n = 0");
        form = (vb.assign (vb.word
            (codes "n") suffix.Absent) (vb.lit (literal.Int (pos 0) false)));
      });
      bindings = (record {
        exprs = ((bound.typed types.long
            (bound.variable (record { 0 = 3 }) false)) ∷ (bound.typed types.long (bound.convert types.long (bound.typed types.integer
            (bound.constant (value.Int (pos 0)) origin.Literal)))) ∷ []);
        rules = (record { bits = 0 });
        mentions = ((mention.Var
            (record { 0 = 3 })) ∷ []);
      });
    }) ∷
    (record {
      source = (record { place = (record { file = 1; line = 14 }); text = (codes "Do"); form = vb.do_head });
      bindings
          = (record { exprs = ([]); rules = (record { bits = 0 }); mentions = ([]) });
    }) ∷
    (record {
      source = (record {
        place = (record { file = 1; line = 15 });
        text = (codes "n = n + 1");
        form = (vb.assign (vb.word
            (codes "n") suffix.Absent) (vb.binary bin.Add (vb.word (codes "n") suffix.Absent) (vb.lit (literal.Int (pos 1) false))));
      });
      bindings = (record {
        exprs = ((bound.typed types.long (bound.variable (record { 0 = 3 }) false)) ∷ (bound.typed types.long
            (bound.binary bin.Add (bound.typed types.long (bound.variable (record { 0 = 3 }) false)) (bound.typed types.long (bound.convert
            types.long (bound.typed types.integer (bound.constant (value.Int (pos 1)) origin.Literal)))))) ∷ []);
        rules = (record
            { bits = 0 });
        mentions = ((mention.Var (record { 0 = 3 })) ∷ (mention.Var (record { 0 = 3 })) ∷ []);
      });
    }) ∷
    (record {
      source = (record {
        place = (record { file = 1; line = 16 });
        text = (codes "If n = 2 Then");
        form = (vb.line_if
            (vb.binary bin.Equal (vb.word (codes "n") suffix.Absent) (vb.lit (literal.Int (pos 2) false))));
      });
      bindings = (record {
        exprs = ((bound.typed types.boolean (bound.binary bin.Equal (bound.typed types.long (bound.variable (record {
          0 = 3;
        }) false)) (bound.typed types.long (bound.convert types.long (bound.typed types.integer (bound.constant (value.Int (pos
            2)) origin.Literal)))))) ∷ []);
        rules = (record { bits = 0 });
        mentions = ((mention.Var (record { 0 = 3 })) ∷ []);
      });
    })
    ∷
    (record {
      source = (record {
        place = (record { file = 1; line = 16 });
        text = (codes "Exit Do");
        form = (vb.exit leaving.Do);
      });
      bindings = (record { exprs = ([]); rules = (record { bits = 0 }); mentions = ([]) });
    }) ∷
    (record {
      source = (record { place = (record { file = 1; line = 16 }); text = (codes "End If"); form = vb.end_if });
      bindings
          = (record { exprs = ([]); rules = (record { bits = 0 }); mentions = ([]) });
    }) ∷
    (record {
      source = (record {
        place = (record { file = 1; line = 17 });
        text = (codes "If i = 3 Then");
        form = (vb.line_if
            (vb.binary bin.Equal (vb.word (codes "i") suffix.Absent) (vb.lit (literal.Int (pos 3) false))));
      });
      bindings = (record {
        exprs = ((bound.typed types.boolean (bound.binary bin.Equal (bound.typed types.long (bound.variable (record {
          0 = 2;
        }) false)) (bound.typed types.long (bound.convert types.long (bound.typed types.integer (bound.constant (value.Int (pos
            3)) origin.Literal)))))) ∷ []);
        rules = (record { bits = 0 });
        mentions = ((mention.Var (record { 0 = 2 })) ∷ []);
      });
    })
    ∷
    (record {
      source = (record {
        place = (record { file = 1; line = 17 });
        text = (codes "Exit For");
        form = (vb.exit leaving.For);
      });
      bindings = (record { exprs = ([]); rules = (record { bits = 0 }); mentions = ([]) });
    }) ∷
    (record {
      source = (record { place = (record { file = 1; line = 17 }); text = (codes "End If"); form = vb.end_if });
      bindings
          = (record { exprs = ([]); rules = (record { bits = 0 }); mentions = ([]) });
    }) ∷
    (record {
      source = (record { place = (record { file = 1; line = 18 }); text = (codes "Loop"); form = vb.loop });
      bindings
          = (record { exprs = ([]); rules = (record { bits = 0 }); mentions = ([]) });
    }) ∷
    (record {
      source = (record {
        place = (record { file = 1; line = 19 });
        text = (codes "Debug.Print i; n");
        form = (vb.debug_print
            ((vb.word (codes "i") suffix.Absent) ∷ (vb.word (codes "n") suffix.Absent) ∷ []) false);
      });
      bindings = (record {
        exprs
            = ((bound.typed types.long (bound.variable (record { 0 = 2 }) false)) ∷ (bound.typed types.long (bound.variable (record
            { 0 = 3 }) false)) ∷ []);
        rules = (record { bits = 0 });
        mentions = ((mention.Var (record { 0 = 2 })) ∷ (mention.Var (record
            { 0 = 3 })) ∷ []);
      });
    }) ∷
    (record {
      source = (record {
        place = (record { file = 1; line = 20 });
        text = (codes "Next i");
        form = (vb.next (Some
            ((codes "i"), suffix.Absent)));
      });
      bindings = (record { exprs = ([]); rules = (record { bits = 0 }); mentions = ([]) });
    }) ∷
    (record {
      source = (record {
        place = (record { file = 1; line = 21 });
        text = (codes "Do While n < 5");
        form = (vb.do_while
            (vb.binary bin.Less (vb.word (codes "n") suffix.Absent) (vb.lit (literal.Int (pos 5) false))));
      });
      bindings = (record {
        exprs = ((bound.typed types.boolean (bound.binary bin.Less (bound.typed types.long (bound.variable (record { 0 = 3 })
            false)) (bound.typed types.long (bound.convert types.long (bound.typed types.integer (bound.constant (value.Int (pos 5))
            origin.Literal)))))) ∷ []);
        rules = (record { bits = 0 });
        mentions = ((mention.Var (record { 0 = 3 })) ∷ []);
      });
    }) ∷
    (record {
      source = (record {
        place = (record { file = 1; line = 22 });
        text = (codes "n = n + 1");
        form = (vb.assign (vb.word
            (codes "n") suffix.Absent) (vb.binary bin.Add (vb.word (codes "n") suffix.Absent) (vb.lit (literal.Int (pos 1) false))));
      });
      bindings = (record {
        exprs = ((bound.typed types.long (bound.variable (record { 0 = 3 }) false)) ∷ (bound.typed types.long
            (bound.binary bin.Add (bound.typed types.long (bound.variable (record { 0 = 3 }) false)) (bound.typed types.long (bound.convert
            types.long (bound.typed types.integer (bound.constant (value.Int (pos 1)) origin.Literal)))))) ∷ []);
        rules = (record
            { bits = 0 });
        mentions = ((mention.Var (record { 0 = 3 })) ∷ (mention.Var (record { 0 = 3 })) ∷ []);
      });
    }) ∷
    (record {
      source = (record { place = (record { file = 1; line = 23 }); text = (codes "Loop"); form = vb.loop });
      bindings
          = (record { exprs = ([]); rules = (record { bits = 0 }); mentions = ([]) });
    }) ∷
    (record {
      source = (record {
        place = (record { file = 1; line = 24 });
        text = (codes "Do Until n = 7");
        form = (vb.do_until
            (vb.binary bin.Equal (vb.word (codes "n") suffix.Absent) (vb.lit (literal.Int (pos 7) false))));
      });
      bindings = (record {
        exprs = ((bound.typed types.boolean (bound.binary bin.Equal (bound.typed types.long (bound.variable (record {
          0 = 3;
        }) false)) (bound.typed types.long (bound.convert types.long (bound.typed types.integer (bound.constant (value.Int (pos
            7)) origin.Literal)))))) ∷ []);
        rules = (record { bits = 0 });
        mentions = ((mention.Var (record { 0 = 3 })) ∷ []);
      });
    })
    ∷
    (record {
      source = (record {
        place = (record { file = 1; line = 25 });
        text = (codes "n = n + 1");
        form = (vb.assign (vb.word
            (codes "n") suffix.Absent) (vb.binary bin.Add (vb.word (codes "n") suffix.Absent) (vb.lit (literal.Int (pos 1) false))));
      });
      bindings = (record {
        exprs = ((bound.typed types.long (bound.variable (record { 0 = 3 }) false)) ∷ (bound.typed types.long
            (bound.binary bin.Add (bound.typed types.long (bound.variable (record { 0 = 3 }) false)) (bound.typed types.long (bound.convert
            types.long (bound.typed types.integer (bound.constant (value.Int (pos 1)) origin.Literal)))))) ∷ []);
        rules = (record
            { bits = 0 });
        mentions = ((mention.Var (record { 0 = 3 })) ∷ (mention.Var (record { 0 = 3 })) ∷ []);
      });
    }) ∷
    (record {
      source = (record { place = (record { file = 1; line = 26 }); text = (codes "Loop"); form = vb.loop });
      bindings
          = (record { exprs = ([]); rules = (record { bits = 0 }); mentions = ([]) });
    }) ∷
    (record {
      source = (record { place = (record { file = 1; line = 27 }); text = (codes "Do"); form = vb.do_head });
      bindings
          = (record { exprs = ([]); rules = (record { bits = 0 }); mentions = ([]) });
    }) ∷
    (record {
      source = (record {
        place = (record { file = 1; line = 28 });
        text = (codes "n = n + 1");
        form = (vb.assign (vb.word
            (codes "n") suffix.Absent) (vb.binary bin.Add (vb.word (codes "n") suffix.Absent) (vb.lit (literal.Int (pos 1) false))));
      });
      bindings = (record {
        exprs = ((bound.typed types.long (bound.variable (record { 0 = 3 }) false)) ∷ (bound.typed types.long
            (bound.binary bin.Add (bound.typed types.long (bound.variable (record { 0 = 3 }) false)) (bound.typed types.long (bound.convert
            types.long (bound.typed types.integer (bound.constant (value.Int (pos 1)) origin.Literal)))))) ∷ []);
        rules = (record
            { bits = 0 });
        mentions = ((mention.Var (record { 0 = 3 })) ∷ (mention.Var (record { 0 = 3 })) ∷ []);
      });
    }) ∷
    (record {
      source = (record {
        place = (record { file = 1; line = 29 });
        text = (codes "Loop While n < 9");
        form = (vb.loop_while
            (vb.binary bin.Less (vb.word (codes "n") suffix.Absent) (vb.lit (literal.Int (pos 9) false))));
      });
      bindings = (record {
        exprs = ((bound.typed types.boolean (bound.binary bin.Less (bound.typed types.long (bound.variable (record { 0 = 3 })
            false)) (bound.typed types.long (bound.convert types.long (bound.typed types.integer (bound.constant (value.Int (pos 9))
            origin.Literal)))))) ∷ []);
        rules = (record { bits = 0 });
        mentions = ((mention.Var (record { 0 = 3 })) ∷ []);
      });
    }) ∷
    (record {
      source = (record { place = (record { file = 1; line = 30 }); text = (codes "Do"); form = vb.do_head });
      bindings
          = (record { exprs = ([]); rules = (record { bits = 0 }); mentions = ([]) });
    }) ∷
    (record {
      source = (record {
        place = (record { file = 1; line = 31 });
        text = (codes "n = n + 1");
        form = (vb.assign (vb.word
            (codes "n") suffix.Absent) (vb.binary bin.Add (vb.word (codes "n") suffix.Absent) (vb.lit (literal.Int (pos 1) false))));
      });
      bindings = (record {
        exprs = ((bound.typed types.long (bound.variable (record { 0 = 3 }) false)) ∷ (bound.typed types.long
            (bound.binary bin.Add (bound.typed types.long (bound.variable (record { 0 = 3 }) false)) (bound.typed types.long (bound.convert
            types.long (bound.typed types.integer (bound.constant (value.Int (pos 1)) origin.Literal)))))) ∷ []);
        rules = (record
            { bits = 0 });
        mentions = ((mention.Var (record { 0 = 3 })) ∷ (mention.Var (record { 0 = 3 })) ∷ []);
      });
    }) ∷
    (record {
      source = (record {
        place = (record { file = 1; line = 32 });
        text = (codes "Loop Until n >= 11");
        form = (vb.loop_until
            (vb.binary bin.GreaterEqual (vb.word (codes "n") suffix.Absent) (vb.lit (literal.Int (pos 11) false))));
      });
      bindings =
          (record {
            exprs = ((bound.typed types.boolean (bound.binary bin.GreaterEqual (bound.typed types.long (bound.variable (record
                { 0 = 3 }) false)) (bound.typed types.long (bound.convert types.long (bound.typed types.integer (bound.constant (value.Int
                (pos 11)) origin.Literal)))))) ∷ []);
            rules = (record { bits = 0 });
            mentions = ((mention.Var (record { 0 = 3 })) ∷ []);
          });
    }) ∷
    (record {
      source = (record {
        place = (record { file = 1; line = 33 });
        text = (codes "Select Case n");
        form = (vb.select
            (vb.word (codes "n") suffix.Absent));
      });
      bindings = (record {
        exprs = ((bound.typed types.long (bound.variable (record
            { 0 = 3 }) false)) ∷ []);
        rules = (record { bits = 0 });
        mentions = ((mention.Var (record { 0 = 3 })) ∷ []);
      });
    }) ∷
    (record {
      source = (record {
        place = (record { file = 1; line = 34 });
        text = (codes "Case 1");
        form = (vb.case_line ((vb.case_value
            (vb.lit (literal.Int (pos 1) false))) ∷ []));
      });
      bindings = (record {
        exprs = ((bound.typed types.long (bound.convert
            types.long (bound.typed types.integer (bound.constant (value.Int (pos 1)) origin.Literal)))) ∷ []);
        rules = (record {
          bits = 0;
        });
        mentions = ([]);
      });
    }) ∷
    (record {
      source = (record {
        place = (record { file = 1; line = 35 });
        text = (68 ∷ 101 ∷ 98 ∷ 117 ∷ 103 ∷ 46 ∷ 80 ∷ 114
            ∷ 105 ∷ 110 ∷ 116 ∷ 32 ∷ 34 ∷ 111 ∷ 110 ∷ 101 ∷ 34 ∷ []);
        form = (vb.debug_print ((vb.lit (literal.Str (codes "one")))
            ∷ []) false);
      });
      bindings = (record {
        exprs = ((bound.typed types.str (bound.constant (value.Str (codes "one")) origin.Literal))
            ∷ []);
        rules = (record { bits = 0 });
        mentions = ([]);
      });
    }) ∷
    (record {
      source = (record {
        place = (record { file = 1; line = 36 });
        text = (codes "Case Else");
        form = vb.case_else;
      });
      bindings = (record { exprs = ([]); rules = (record { bits = 0 }); mentions = ([]) });
    }) ∷
    (record {
      source = (record {
        place = (record { file = 1; line = 37 });
        text = (68 ∷ 101 ∷ 98 ∷ 117 ∷ 103 ∷ 46 ∷ 80 ∷ 114
            ∷ 105 ∷ 110 ∷ 116 ∷ 32 ∷ 34 ∷ 101 ∷ 108 ∷ 115 ∷ 101 ∷ 34 ∷ 59 ∷ 32 ∷ 110 ∷ []);
        form = (vb.debug_print ((vb.lit (literal.Str
            (codes "else"))) ∷ (vb.word (codes "n") suffix.Absent) ∷ []) false);
      });
      bindings = (record {
        exprs = ((bound.typed types.str
            (bound.constant (value.Str (codes "else")) origin.Literal)) ∷ (bound.typed types.long (bound.variable (record {
              0 = 3;
            }) false)) ∷ []);
        rules = (record { bits = 0 });
        mentions = ((mention.Var (record { 0 = 3 })) ∷ []);
      });
    }) ∷
    (record {
      source = (record {
        place = (record { file = 1; line = 38 });
        text = (codes "End Select");
        form = vb.end_select;
      });
      bindings = (record { exprs = ([]); rules = (record { bits = 0 }); mentions = ([]) });
    }) ∷ [])

abbrev pub body_1 : List bound.Line
body_1 = (
    (record {
      source = (record {
        place = (record { file = 1; line = 43 });
        text = (97 ∷ 46 ∷ 78 ∷ 97 ∷ 109 ∷ 101 ∷ 49 ∷ 32
            ∷ 61 ∷ 32 ∷ 34 ∷ 97 ∷ 98 ∷ 99 ∷ 100 ∷ 34 ∷ []);
        form = (vb.assign (vb.member (vb.word (codes "a") suffix.Absent) (codes
            "Name1")) (vb.lit (literal.Str (codes "abcd"))));
      });
      bindings = (record {
        exprs = ((bound.typed (types.fixed 3) (bound.field
            (bound.typed (types.user 0) (bound.variable (record { 0 = 4 }) false)) 0)) ∷ (bound.typed types.str (bound.constant (value.Str
            (codes "abcd")) origin.Literal)) ∷ []);
        rules = (record { bits = 0 });
        mentions = ((mention.Var (record { 0 = 0 })) ∷
            (mention.Var (record { 0 = 4 })) ∷ []);
      });
    }) ∷
    (record {
      source = (record {
        place = (record { file = 1; line = 44 });
        text = (codes "a.Qty = 1");
        form = (vb.assign (vb.member
            (vb.word (codes "a") suffix.Absent) (codes "Qty")) (vb.lit (literal.Int (pos 1) false)));
      });
      bindings = (record {
        exprs
            = ((bound.typed types.long (bound.field (bound.typed (types.user 0) (bound.variable (record { 0 = 4 }) false)) 1)) ∷ (bound.typed
            types.long (bound.convert types.long (bound.typed types.integer (bound.constant (value.Int (pos 1)) origin.Literal))))
            ∷ []);
        rules = (record { bits = 0 });
        mentions = ((mention.Var (record { 0 = 1 })) ∷ (mention.Var (record { 0 = 4 }))
            ∷ []);
      });
    }) ∷
    (record {
      source = (record {
        place = (record { file = 1; line = 45 });
        text = (codes "b = a");
        form = (vb.assign (vb.word
            (codes "b") suffix.Absent) (vb.word (codes "a") suffix.Absent));
      });
      bindings = (record {
        exprs = ((bound.typed (types.user
            0) (bound.variable (record { 0 = 5 }) false)) ∷ (bound.typed (types.user 0) (bound.variable (record { 0 = 4 }) false))
            ∷ []);
        rules = (record { bits = 0 });
        mentions = ((mention.Var (record { 0 = 5 })) ∷ (mention.Var (record { 0 = 4 }))
            ∷ []);
      });
    }) ∷
    (record {
      source = (record {
        place = (record { file = 1; line = 46 });
        text = (codes "b.Qty = 2");
        form = (vb.assign (vb.member
            (vb.word (codes "b") suffix.Absent) (codes "Qty")) (vb.lit (literal.Int (pos 2) false)));
      });
      bindings = (record {
        exprs
            = ((bound.typed types.long (bound.field (bound.typed (types.user 0) (bound.variable (record { 0 = 5 }) false)) 1)) ∷ (bound.typed
            types.long (bound.convert types.long (bound.typed types.integer (bound.constant (value.Int (pos 2)) origin.Literal))))
            ∷ []);
        rules = (record { bits = 0 });
        mentions = ((mention.Var (record { 0 = 1 })) ∷ (mention.Var (record { 0 = 5 }))
            ∷ []);
      });
    }) ∷
    (record {
      source = (record {
        place = (record { file = 1; line = 47 });
        text = (codes "Debug.Print a.Name1; a.Qty; b.Name1; b.Qty");
        form = (vb.debug_print ((vb.member (vb.word (codes "a") suffix.Absent) (codes "Name1")) ∷ (vb.member (vb.word (codes "a")
            suffix.Absent) (codes "Qty")) ∷ (vb.member (vb.word (codes "b") suffix.Absent) (codes "Name1")) ∷ (vb.member (vb.word
            (codes "b") suffix.Absent) (codes "Qty")) ∷ []) false);
      });
      bindings = (record {
        exprs = ((bound.typed (types.fixed 3)
            (bound.field (bound.typed (types.user 0) (bound.variable (record { 0 = 4 }) false)) 0)) ∷ (bound.typed types.long (bound.field
            (bound.typed (types.user 0) (bound.variable (record { 0 = 4 }) false)) 1)) ∷ (bound.typed (types.fixed 3) (bound.field
            (bound.typed (types.user 0) (bound.variable (record { 0 = 5 }) false)) 0)) ∷ (bound.typed types.long (bound.field (bound.typed
            (types.user 0) (bound.variable (record { 0 = 5 }) false)) 1)) ∷ []);
        rules = (record { bits = 0 });
        mentions = ((mention.Var
            (record { 0 = 0 })) ∷ (mention.Var (record { 0 = 4 })) ∷ (mention.Var (record { 0 = 1 })) ∷ (mention.Var (record {
              0 =
                  4;
            })) ∷ (mention.Var (record { 0 = 0 })) ∷ (mention.Var (record { 0 = 5 })) ∷ (mention.Var (record { 0 = 1 })) ∷ (mention.Var
            (record { 0 = 5 })) ∷ []);
      });
    }) ∷ [])

abbrev pub body_2 : List bound.Line
body_2 = (
    (record {
      source = (record {
        place = (record { file = 1; line = 51 });
        text = (codes "On Error GoTo Fail");
        form = (vb.on_error_goto
            (label.Word (codes "Fail")));
      });
      bindings = (record { exprs = ([]); rules = (record { bits = 0 }); mentions = ([]) });
    }) ∷
    (record {
      source = (record {
        place = (record { file = 1; line = 52 });
        text = (codes "Jumps");
        form = (vb.invoke (vb.word
            (codes "Jumps") suffix.Absent) vb.no_args);
      });
      bindings = (record {
        exprs = ((bound.typed types.nothing (bound.call (record
            { 0 = 0 }) false bound.no_object bound.no_passed)) ∷ []);
        rules = (record { bits = 0 });
        mentions = ((mention.Proc (record
            { 0 = 0 })) ∷ []);
      });
    }) ∷
    (record {
      source = (record {
        place = (record { file = 1; line = 53 });
        text = (codes "Texts");
        form = (vb.invoke (vb.word
            (codes "Texts") suffix.Absent) vb.no_args);
      });
      bindings = (record {
        exprs = ((bound.typed types.nothing (bound.call (record
            { 0 = 1 }) false bound.no_object bound.no_passed)) ∷ []);
        rules = (record { bits = 0 });
        mentions = ((mention.Proc (record
            { 0 = 1 })) ∷ []);
      });
    }) ∷
    (record {
      source = (record {
        place = (record { file = 1; line = 54 });
        text = (codes "Debug.Print Other.Low; High");
        form
            = (vb.debug_print ((vb.member (vb.word (codes "Other") suffix.Absent) (codes "Low")) ∷ (vb.word (codes "High") suffix.Absent)
            ∷ []) false);
      });
      bindings = (record {
        exprs = ((bound.typed types.long (bound.constant (value.Long (negsuc 0)) (origin.Declared
            (record { 0 = 0 })))) ∷ (bound.typed types.long (bound.constant (value.Long (pos 9)) (origin.Declared (record {
              0 = 1;
            })))) ∷ []);
        rules = (record { bits = 0 });
        mentions = ((mention.Const (record { 0 = 0 })) ∷ (mention.Const (record {
          0 = 1;
        })) ∷ []);
      });
    }) ∷
    (record {
      source = (record {
        place = (record { file = 1; line = 55 });
        text = (codes "Err.Raise 7");
        form = (vb.invoke
            (vb.member (vb.word (codes "Err") suffix.Absent) (codes "Raise")) (vb.next_arg None false (vb.given (vb.lit (literal.Int
            (pos 7) false))) vb.no_args));
      });
      bindings = (record {
        exprs = ((bound.typed types.nothing (bound.err_raise (bound.typed
            types.long (bound.convert types.long (bound.typed types.integer (bound.constant (value.Int (pos 7)) origin.Literal))))))
            ∷ []);
        rules = (record { bits = 0 });
        mentions = ([]);
      });
    }) ∷
    (record {
      source = (record {
        place = (record { file = 1; line = 56 });
        text = (68 ∷ 101 ∷ 98 ∷ 117 ∷ 103 ∷ 46 ∷ 80 ∷ 114
            ∷ 105 ∷ 110 ∷ 116 ∷ 32 ∷ 34 ∷ 110 ∷ 101 ∷ 118 ∷ 101 ∷ 114 ∷ 34 ∷ []);
        form = (vb.debug_print ((vb.lit (literal.Str (codes
            "never"))) ∷ []) false);
      });
      bindings = (record {
        exprs = ((bound.typed types.str (bound.constant (value.Str (codes "never"))
            origin.Literal)) ∷ []);
        rules = (record { bits = 0 });
        mentions = ([]);
      });
    }) ∷
    (record {
      source = (record {
        place = (record { file = 1; line = 57 });
        text = (codes "Done");
        form = (vb.label (label.Word
            (codes "Done")));
      });
      bindings = (record { exprs = ([]); rules = (record { bits = 0 }); mentions = ([]) });
    }) ∷
    (record {
      source = (record {
        place = (record { file = 1; line = 58 });
        text = (codes "On Error GoTo 0");
        form = vb.on_error_goto_zero;
      });
      bindings = (record { exprs = ([]); rules = (record { bits = 0 }); mentions = ([]) });
    }) ∷
    (record {
      source = (record {
        place = (record { file = 1; line = 59 });
        text = (68 ∷ 101 ∷ 98 ∷ 117 ∷ 103 ∷ 46 ∷ 80 ∷ 114
            ∷ 105 ∷ 110 ∷ 116 ∷ 32 ∷ 34 ∷ 100 ∷ 111 ∷ 110 ∷ 101 ∷ 34 ∷ 59 ∷ 32 ∷ 69 ∷ 114 ∷ 114 ∷ 46 ∷ 78 ∷ 117 ∷ 109 ∷ 98 ∷ 101 ∷
            114 ∷ []);
        form = (vb.debug_print ((vb.lit (literal.Str (codes "done"))) ∷ (vb.member (vb.word (codes "Err") suffix.Absent)
            (codes "Number")) ∷ []) false);
      });
      bindings = (record {
        exprs = ((bound.typed types.str (bound.constant (value.Str (codes
            "done")) origin.Literal)) ∷ (bound.typed types.long bound.err_number) ∷ []);
        rules = (record { bits = 0 });
        mentions =
            ([]);
      });
    }) ∷
    (record {
      source = (record {
        place = (record { file = 1; line = 60 });
        text = (codes "Exit Sub");
        form = (vb.exit leaving.Sub);
      });
      bindings = (record { exprs = ([]); rules = (record { bits = 0 }); mentions = ([]) });
    }) ∷
    (record {
      source = (record {
        place = (record { file = 1; line = 61 });
        text = (codes "Fail");
        form = (vb.label (label.Word
            (codes "Fail")));
      });
      bindings = (record { exprs = ([]); rules = (record { bits = 0 }); mentions = ([]) });
    }) ∷
    (record {
      source = (record {
        place = (record { file = 1; line = 62 });
        text = (68 ∷ 101 ∷ 98 ∷ 117 ∷ 103 ∷ 46 ∷ 80 ∷ 114
            ∷ 105 ∷ 110 ∷ 116 ∷ 32 ∷ 34 ∷ 101 ∷ 114 ∷ 114 ∷ 111 ∷ 114 ∷ 34 ∷ 59 ∷ 32 ∷ 69 ∷ 114 ∷ 114 ∷ 46 ∷ 78 ∷ 117 ∷ 109 ∷ 98 ∷
            101 ∷ 114 ∷ []);
        form = (vb.debug_print ((vb.lit (literal.Str (codes "error"))) ∷ (vb.member (vb.word (codes "Err") suffix.Absent)
            (codes "Number")) ∷ []) false);
      });
      bindings = (record {
        exprs = ((bound.typed types.str (bound.constant (value.Str (codes
            "error")) origin.Literal)) ∷ (bound.typed types.long bound.err_number) ∷ []);
        rules = (record { bits = 0 });
        mentions
            = ([]);
      });
    }) ∷
    (record {
      source = (record {
        place = (record { file = 1; line = 63 });
        text = (codes "Resume Done");
        form = (vb.resume_at
            (label.Word (codes "Done")));
      });
      bindings = (record { exprs = ([]); rules = (record { bits = 0 }); mentions = ([]) });
    }) ∷ [])

abbrev pub bodies : List (List bound.Line)
bodies = body_0 ∷ body_1 ∷ body_2 ∷ []

abbrev pub program : bound.Program
program = record { declarations = declarations; bodies = bodies }

abbrev pub quiet : List (List Bool)
quiet = (([]) ∷ ([]) ∷ ([]) ∷ [])

abbrev pub lows : List (VarId × ℤ × ℤ)
lows = ([])

abbrev pub clean : List Bool
clean = (true ∷ true ∷ true ∷ [])

abbrev pub written : net.Project
written = (record {
  library = false;
  main = (Some (codes "Main1"));
  note = None;
  modules = ((record {
    name = (codes "Main1");
    class = false;
    members = (
        (net.structure (record {
          name = (codes "Item");
          fields = ((net.field (codes "Name1") net_types.str) ∷ (net.field (codes
              "Qty") net_types.integer) ∷ []);
        })) ∷
        (net.proc (record {
          head = (net.sub net_visible.Public (codes "Jumps") ([]));
          prologue = (
              (net.local (record { name = (codes "i"); ty = net_types.integer; value = None })) ∷
              (net.local (record { name = (codes "n"); ty = net_types.integer; value = None })) ∷ []);
          lines = (
              net.on_error_goto_zero ∷
              (net.label (net_label.Word (codes "Again"))) ∷
              (net.assign (net.path ((codes "n") ∷ [])) (net.binary net_bin.Add (net.path ((codes "n") ∷ [])) (net.lit (net.integer
              (pos 1) false)))) ∷
              (net.if_head (net.binary net_bin.Less (net.path ((codes "n") ∷ [])) (net.lit (net.integer (pos 3) false)))) ∷
              (net.goto (net_label.Word (codes "Again"))) ∷
              net.end_if ∷
              (net.for_head (net.path ((codes "i") ∷ [])) (net.lit (net.integer (pos 1) false)) (net.lit (net.integer (pos 3) false))
              None) ∷
              (net.assign (net.path ((codes "n") ∷ [])) (net.lit (net.integer (pos 0) false))) ∷
              net.do_head ∷
              (net.assign (net.path ((codes "n") ∷ [])) (net.binary net_bin.Add (net.path ((codes "n") ∷ [])) (net.lit (net.integer
              (pos 1) false)))) ∷
              (net.if_head (net.binary net_bin.Equal (net.path ((codes "n") ∷ [])) (net.lit (net.integer (pos 2) false)))) ∷
              (net.exit net_exit.Do) ∷
              net.end_if ∷
              (net.if_head (net.binary net_bin.Equal (net.path ((codes "i") ∷ [])) (net.lit (net.integer (pos 3) false)))) ∷
              (net.exit net_exit.For) ∷
              net.end_if ∷
              net.loop ∷
              (net.call (net.path ((codes "UpgradeSupport") ∷ (codes "PrintLine") ∷ [])) (net.next_exp (net.binary net_bin.Concat (net.call_of
              (net.path ((codes "UpgradeSupport") ∷ (codes "PrintNum") ∷ [])) (net.next_exp (net.cast cast.CDec (net.path ((codes "i")
              ∷ []))) net.no_exps)) (net.call_of (net.path ((codes "UpgradeSupport") ∷ (codes "PrintNum") ∷ [])) (net.next_exp (net.cast
              cast.CDec (net.path ((codes "n") ∷ []))) net.no_exps))) net.no_exps)) ∷
              net.next ∷
              (net.do_while (net.binary net_bin.Less (net.path ((codes "n") ∷ [])) (net.lit (net.integer (pos 5) false)))) ∷
              (net.assign (net.path ((codes "n") ∷ [])) (net.binary net_bin.Add (net.path ((codes "n") ∷ [])) (net.lit (net.integer
              (pos 1) false)))) ∷
              net.loop ∷
              (net.do_until (net.binary net_bin.Equal (net.path ((codes "n") ∷ [])) (net.lit (net.integer (pos 7) false)))) ∷
              (net.assign (net.path ((codes "n") ∷ [])) (net.binary net_bin.Add (net.path ((codes "n") ∷ [])) (net.lit (net.integer
              (pos 1) false)))) ∷
              net.loop ∷
              net.do_head ∷
              (net.assign (net.path ((codes "n") ∷ [])) (net.binary net_bin.Add (net.path ((codes "n") ∷ [])) (net.lit (net.integer
              (pos 1) false)))) ∷
              (net.loop_while (net.binary net_bin.Less (net.path ((codes "n") ∷ [])) (net.lit (net.integer (pos 9) false)))) ∷
              net.do_head ∷
              (net.assign (net.path ((codes "n") ∷ [])) (net.binary net_bin.Add (net.path ((codes "n") ∷ [])) (net.lit (net.integer
              (pos 1) false)))) ∷
              (net.loop_until (net.binary net_bin.GreaterEqual (net.path ((codes "n") ∷ [])) (net.lit (net.integer (pos 11) false))))
              ∷
              (net.select (net.path ((codes "n") ∷ []))) ∷
              (net.case_line ((net.case_value (net.lit (net.integer (pos 1) false))) ∷ [])) ∷
              (net.call (net.path ((codes "UpgradeSupport") ∷ (codes "PrintLine") ∷ [])) (net.next_exp (net.lit (net.str (codes "one")))
              net.no_exps)) ∷
              net.case_else ∷
              (net.call (net.path ((codes "UpgradeSupport") ∷ (codes "PrintLine") ∷ [])) (net.next_exp (net.binary net_bin.Concat (net.lit
              (net.str (codes "else"))) (net.call_of (net.path ((codes "UpgradeSupport") ∷ (codes "PrintNum") ∷ [])) (net.next_exp (net.cast
              cast.CDec (net.path ((codes "n") ∷ []))) net.no_exps))) net.no_exps)) ∷
              net.end_select ∷ []);
          close = close.EndSub;
        })) ∷
        (net.proc (record {
          head = (net.sub net_visible.Public (codes "Texts") ([]));
          prologue = (
              (net.local (record {
                name = (codes "a");
                ty = (net_types.named ((codes "Item") ∷ []));
                value = (Some (net.call_of (net.path
                    ((codes "UpgradeSupport") ∷ (codes "New1") ∷ [])) net.no_exps));
              })) ∷
              (net.local (record {
                name = (codes "b");
                ty = (net_types.named ((codes "Item") ∷ []));
                value = (Some (net.call_of (net.path
                    ((codes "UpgradeSupport") ∷ (codes "New1") ∷ [])) net.no_exps));
              })) ∷ []);
          lines = (
              (net.assign (net.path ((codes "a") ∷ (codes "Name1") ∷ [])) (net.call_of (net.path ((codes "UpgradeSupport") ∷ (codes
              "Fix") ∷ [])) (net.next_exp (net.lit (net.str (codes "abcd"))) (net.next_exp (net.lit (net.integer (pos 3) false)) net.no_exps))))
              ∷
              (net.assign (net.path ((codes "a") ∷ (codes "Qty") ∷ [])) (net.lit (net.integer (pos 1) false))) ∷
              (net.assign (net.path ((codes "b") ∷ [])) (net.path ((codes "a") ∷ []))) ∷
              (net.assign (net.path ((codes "b") ∷ (codes "Qty") ∷ [])) (net.lit (net.integer (pos 2) false))) ∷
              (net.call (net.path ((codes "UpgradeSupport") ∷ (codes "PrintLine") ∷ [])) (net.next_exp (net.binary net_bin.Concat (net.binary
              net_bin.Concat (net.binary net_bin.Concat (net.path ((codes "a") ∷ (codes "Name1") ∷ [])) (net.call_of (net.path ((codes
              "UpgradeSupport") ∷ (codes "PrintNum") ∷ [])) (net.next_exp (net.cast cast.CDec (net.path ((codes "a") ∷ (codes "Qty")
              ∷ []))) net.no_exps))) (net.path ((codes "b") ∷ (codes "Name1") ∷ []))) (net.call_of (net.path ((codes "UpgradeSupport")
              ∷ (codes "PrintNum") ∷ [])) (net.next_exp (net.cast cast.CDec (net.path ((codes "b") ∷ (codes "Qty") ∷ []))) net.no_exps)))
              net.no_exps)) ∷ []);
          close = close.EndSub;
        })) ∷
        (net.proc (record {
          head = (net.sub net_visible.Public (codes "Main") ([]));
          prologue = ([]);
          lines = (
              (net.on_error_goto (net_label.Word (codes "Fail"))) ∷
              (net.call (net.path ((codes "Jumps") ∷ [])) net.no_exps) ∷
              (net.call (net.path ((codes "Texts") ∷ [])) net.no_exps) ∷
              (net.call (net.path ((codes "UpgradeSupport") ∷ (codes "PrintLine") ∷ [])) (net.next_exp (net.binary net_bin.Concat (net.call_of
              (net.path ((codes "UpgradeSupport") ∷ (codes "PrintNum") ∷ [])) (net.next_exp (net.cast cast.CDec (net.lit (net.integer
              (negsuc 0) true))) net.no_exps)) (net.call_of (net.path ((codes "UpgradeSupport") ∷ (codes "PrintNum") ∷ [])) (net.next_exp
              (net.cast cast.CDec (net.lit (net.integer (pos 9) false))) net.no_exps))) net.no_exps)) ∷
              (net.call (net.path ((codes "UpgradeSupport") ∷ (codes "Raise") ∷ [])) (net.next_exp (net.lit (net.integer (pos 7) false))
              net.no_exps)) ∷
              (net.call (net.path ((codes "UpgradeSupport") ∷ (codes "PrintLine") ∷ [])) (net.next_exp (net.lit (net.str (codes "never")))
              net.no_exps)) ∷
              (net.label (net_label.Word (codes "Done"))) ∷
              net.on_error_goto_zero ∷
              (net.call (net.path ((codes "UpgradeSupport") ∷ (codes "PrintLine") ∷ [])) (net.next_exp (net.binary net_bin.Concat (net.lit
              (net.str (codes "done"))) (net.call_of (net.path ((codes "UpgradeSupport") ∷ (codes "PrintNum") ∷ [])) (net.next_exp (net.cast
              cast.CDec (net.call_of (net.path ((codes "UpgradeSupport") ∷ (codes "ErrNumber") ∷ [])) net.no_exps)) net.no_exps))) net.no_exps))
              ∷
              (net.exit net_exit.Sub) ∷
              (net.label (net_label.Word (codes "Fail"))) ∷
              (net.call (net.path ((codes "UpgradeSupport") ∷ (codes "PrintLine") ∷ [])) (net.next_exp (net.binary net_bin.Concat (net.lit
              (net.str (codes "error"))) (net.call_of (net.path ((codes "UpgradeSupport") ∷ (codes "PrintNum") ∷ [])) (net.next_exp
              (net.cast cast.CDec (net.call_of (net.path ((codes "UpgradeSupport") ∷ (codes "ErrNumber") ∷ [])) net.no_exps)) net.no_exps)))
              net.no_exps)) ∷
              (net.resume_at (net_label.Word (codes "Done"))) ∷ []);
          close = close.EndSub;
        })) ∷ []);
  }) ∷ (record {
    name = (codes "Other");
    class = false;
    members = (
        (net.const_member net_visible.Public (record {
          name = (codes "Low");
          ty = net_types.integer;
          value = (net.lit (net.integer
              (negsuc 0) true));
        })) ∷
        (net.const_member net_visible.Public (record {
          name = (codes "High");
          ty = net_types.integer;
          value = (net.lit (net.integer
              (pos 9) false));
        })) ∷ []);
  }) ∷ []);
  support = (record {
    name = (codes "UpgradeSupport");
    class = false;
    members = (
        (net.proc (record {
          head = (net.sub net_visible.Public (codes "PrintLine") ((record {
            passing = net_passing.Value;
            name
                = (codes "s");
            ty = net_types.str;
          }) ∷ []));
          prologue = ([]);
          lines = (
              (net.call (net.path ((codes "System") ∷ (codes "Console") ∷ (codes "WriteLine") ∷ [])) (net.next_exp (net.path ((codes
              "s") ∷ [])) net.no_exps)) ∷ []);
          close = close.EndSub;
        })) ∷
        (net.proc (record {
          head = (net.function net_visible.Public (codes "CurText") ((record {
            passing = net_passing.Value;
            name = (codes "d");
            ty = net_types.decimal;
          }) ∷ []) net_types.str);
          prologue = ([]);
          lines = (
              (net.assign (net.path ((codes "CurText") ∷ [])) (net.call_of (net.path ((codes "d") ∷ (codes "ToString") ∷ [])) (net.next_exp
              (net.lit (net.str (codes "0.####"))) (net.next_exp (net.path ((codes "System") ∷ (codes "Globalization") ∷ (codes "CultureInfo")
              ∷ (codes "InvariantCulture") ∷ [])) net.no_exps)))) ∷ []);
          close = close.EndFunction;
        })) ∷
        (net.proc (record {
          head = (net.function net_visible.Public (codes "PrintNum") ((record {
            passing = net_passing.Value;
            name = (codes "d");
            ty = net_types.decimal;
          }) ∷ []) net_types.str);
          prologue = ([]);
          lines = (
              (net.if_head (net.binary net_bin.Less (net.path ((codes "d") ∷ [])) (net.lit (net.decimal (pos 0))))) ∷
              (net.assign (net.path ((codes "PrintNum") ∷ [])) (net.binary net_bin.Concat (net.call_of (net.path ((codes "CurText")
              ∷ [])) (net.next_exp (net.path ((codes "d") ∷ [])) net.no_exps)) (net.lit (net.str (codes " "))))) ∷
              net.else_line ∷
              (net.assign (net.path ((codes "PrintNum") ∷ [])) (net.binary net_bin.Concat (net.binary net_bin.Concat (net.lit (net.str
              (codes " "))) (net.call_of (net.path ((codes "CurText") ∷ [])) (net.next_exp (net.path ((codes "d") ∷ [])) net.no_exps)))
              (net.lit (net.str (codes " "))))) ∷
              net.end_if ∷ []);
          close = close.EndFunction;
        })) ∷
        (net.proc (record {
          head = (net.function net_visible.Public (codes "Fix") ((record {
            passing = net_passing.Value;
            name
                = (codes "s");
            ty = net_types.str;
          }) ∷ (record {
            passing = net_passing.Value;
            name = (codes "n");
            ty = net_types.integer;
          }) ∷ []) net_types.str);
          prologue = ([]);
          lines = (
              (net.assign (net.path ((codes "Fix") ∷ [])) (net.call_of (net.dot (net.call_of (net.path ((codes "Microsoft") ∷ (codes
              "VisualBasic") ∷ (codes "Strings") ∷ (codes "Left") ∷ [])) (net.next_exp (net.path ((codes "s") ∷ [])) (net.next_exp (net.path
              ((codes "n") ∷ [])) net.no_exps))) (codes "PadRight")) (net.next_exp (net.path ((codes "n") ∷ [])) net.no_exps))) ∷ []);
          close = close.EndFunction;
        })) ∷
        (net.proc (record {
          head = (net.function net_visible.Public (codes "FixNew") ((record {
            passing = net_passing.Value;
            name
                = (codes "n");
            ty = net_types.integer;
          }) ∷ []) net_types.str);
          prologue = ([]);
          lines = (
              (net.assign (net.path ((codes "FixNew") ∷ [])) (net.new_object (net_types.named ((codes "System") ∷ (codes "String") ∷
              [])) (net.next_exp (net.call_of (net.path ((codes "Microsoft") ∷ (codes "VisualBasic") ∷ (codes "Strings") ∷ (codes "ChrW")
              ∷ [])) (net.next_exp (net.lit (net.integer (pos 0) false)) net.no_exps)) (net.next_exp (net.path ((codes "n") ∷ [])) net.no_exps))))
              ∷ []);
          close = close.EndFunction;
        })) ∷
        (net.proc (record {
          head = (net.function net_visible.Public (codes "ErrNumber") ([]) net_types.integer);
          prologue = ([]);
          lines = (
              (net.assign (net.path ((codes "ErrNumber") ∷ [])) (net.dot (net.call_of (net.path ((codes "Microsoft") ∷ (codes "VisualBasic")
              ∷ (codes "Information") ∷ (codes "Err") ∷ [])) net.no_exps) (codes "Number"))) ∷ []);
          close = close.EndFunction;
        })) ∷
        (net.proc (record {
          head = (net.sub net_visible.Public (codes "Raise") ((record {
            passing = net_passing.Value;
            name =
                (codes "n");
            ty = net_types.integer;
          }) ∷ []));
          prologue = ([]);
          lines = (
              (net.call (net.dot (net.call_of (net.path ((codes "Microsoft") ∷ (codes "VisualBasic") ∷ (codes "Information") ∷ (codes
              "Err") ∷ [])) net.no_exps) (codes "Raise")) (net.next_exp (net.path ((codes "n") ∷ [])) net.no_exps)) ∷ []);
          close = close.EndSub;
        })) ∷
        (net.proc (record {
          head = (net.function net_visible.Public (codes "New1") ([]) (net_types.named ((codes "Main1") ∷ (codes
              "Item") ∷ [])));
          prologue = (
              (net.local (record {
                name = (codes "r");
                ty = (net_types.named ((codes "Main1") ∷ (codes "Item") ∷ []));
                value = None;
              })) ∷ []);
          lines = (
              (net.assign (net.path ((codes "r") ∷ (codes "Name1") ∷ [])) (net.call_of (net.path ((codes "FixNew") ∷ [])) (net.next_exp
              (net.lit (net.integer (pos 3) false)) net.no_exps))) ∷
              (net.assign (net.path ((codes "New1") ∷ [])) (net.path ((codes "r") ∷ []))) ∷ []);
          close = close.EndFunction;
        })) ∷ []);
  });
})

abbrev pub runnable : Runnable
runnable = runnable_of program quiet lows

said : ran runnable 2 2000 ≡ (
  line (codes " 1  2 ")
      ++ line (codes " 2  2 ")
      ++ line (codes "else 11 ")
      ++ line (codes "abc 1 abc 2 ")
      ++ line (codes "-1  9 ")
      ++ line (codes "error 7 ")
      ++ line (codes "done 0 "),
  ended,
)
unfolding digits
said = refl

said_written : ran_written written 2 2000 ≡ (
  line (codes " 1  2 ")
      ++ line (codes " 2  2 ")
      ++ line (codes "else 11 ")
      ++ line (codes "abc 1 abc 2 ")
      ++ line (codes "-1  9 ")
      ++ line (codes "error 7 ")
      ++ line (codes "done 0 "),
  ended,
)
unfolding digits
said_written = refl
