-- Names for the hand-written proofs about boxes.
pub use Rattle.std.proofs.Common.{◌≡◌, ℕ, List, [], ◌∷◌, refl, sym, ap, ◌∙◌, lit<}
pub use Rattle.std.proofs.raw_atomic.Walks.{proved, proved_at}
pub use base.Fraction.{full_share}
pub use base.Logic.{id⊢, SProp, ent, fst∗, never, emp, sep}
pub use base.Fml.{ftrue, flft, fsep, Fml, Lft, GName, Share}
pub use mir.Syntax.{named, w64}
pub use mir.Val.{Val, vunit, vint, vbool, vstruct, vcons, vnil, vptr, of_list, has_ty}
pub use contract.Monad.{fact, Fun}
pub use contract.Running.{tables}
unfoldable pub use contract.Running.{tables_of}
pub use types.Kit.{‵, raw, ◌⊛◌, some, later, at_ret, ◌$◌, ◌∵◌, !, qed, done, move, keep, drop, use1, split, join, fsplit, fsplit3, fjoin, feq_i, feq_l, pick, await, rewrite, suffices, frame, group, fpack, Item, by, fpick, split3}
pub use types.Run.{enter, of_opd, lit, unit_lit, addr, load, stop, fld, no_more, and_then, first, blocks, exec, returns, false_lit, true_lit}
pub use types.ByLocal.{alloc_all, pass_all, free_all, look_at, get, through, sets, lands_as, env, get_in, sets_last}
pub use denote.Builtin.{bool}
pub use denote.Exit.{yes, no}
pub use denote.Laws.{shows}
pub use denote.RawPtr.{Ptr, RawPtr, block_ptr, in_a_block, rawptr_Lawful, null_ptr, ptr_val}
pub use denote.Ref.{MutRef, mut_vals, mut_Tells}
pub use denote.Signature.{plain, Slot, type_at, mut_ref_to}
pub use denote.Steps.{nothing, opens, closes, heard, peeks, only}
pub use denote.Triple.Call.{calls_at}
pub use denote.Triple.Entry.{on_entry}
pub use denote.Triple.Spec.{triple_of}
pub use denote.Triple.Walked.{Stays, walk_of, says, stay_dropped, Goes-dropped, stay_ref, Goes-ref, ends_at, walk_Meets, walked, Goes-spent_ref}
pub use denote.Triple.Table.{entered}
pub use types.Part.{whole, sub, agg, look_in}
pub use prog.Wp.{WpFn, Tables, Env}
pub use denote.RattleType.{Valss}
pub use denote.Struct.Struct.{within}
pub use denote.Struct.Owning.{shape}
pub use mathlib.Core.List.{◌++◌}
pub use mathlib.Core.Bool.{true, false}
pub use seplogic.Ra.Ura.{Ura}
pub use prog.Memory.{Memory}
pub use prog.Routine.{Routine}
pub use types.Logic.{Logic, sem}
pub use sound.WpLaws.{WpFn-mono}
pub use Rattle.std_alloc.proofs.BoxSteps.Form.{D, word, box_typed, τ, B, Bx, R, P}
pub use Rattle.std_heap.specs.contracts.GlobalAllocator.TheImpl.{ghosts}
pub use mir.Raw.{raw as bare}
pub use Rattle.std_alloc.specs.Box.Ownership.{box_owns}
pub use Rattle.core.proofs.alloc.Calls.{handle_tells, α, Goes-blank}
pub use mathlib.Core.Path.{subst}
pub use Rattle.std_alloc.proofs.ResultValues.{and_tt}
pub use Rattle.std_alloc.proofs.BoxSteps.Steps.{box_in, box_out}
pub use denote.Memory.{cell_at, part_at, mem}
unfoldable pub use denote.Memory.{part_of}
pub use denote.Follow.{follows, Part, lends_Part}
pub use Rattle.std_alloc.proofs.VecSteps.Shapes.{after}
pub use mir.MapTy.{inst_fn}
pub use contract.BorrowLft.{◌⊑◌}
pub use Rattle.core.proofs.atomic.Steps.{fm}
