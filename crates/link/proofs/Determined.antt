-- The contract of each exported call, as the checker reads it, determines the call's answer and every byte that it leaves. Assumes
-- nothing.
use Prim.Native.Nat.{ℕ}
use mathlib.Core.Path.{◌≡◌, ◌∙◌, sym}
use mathlib.Core.List.{List}
use denote.Ref.{Bor}
use denote.MutBor.{MutBor}
use Rattle.link.proofs.version.dock_version.Reads as version_reads
use Rattle.link.proofs.events.dock_unpack.Reads as unpack_reads
use Rattle.link.proofs.events.dock_pack.Reads as pack_reads
use Rattle.link.proofs.replay.dock_replay.Reads as replay_reads
use Rattle.link.proofs.held.dock_begin.Reads as begin_reads
use Rattle.link.proofs.held.dock_step.Reads as step_reads
use Rattle.link.proofs.held.dock_batch.Reads as batch_reads
use Rattle.link.proofs.held.dock_name_kind.Reads as name_reads
use Rattle.link.proofs.held.dock_reading.Reads as reading_reads
use Rattle.link.proofs.held.dock_outputs.Reads as outputs_reads
use Rattle.link.proofs.wires.dock_wire_begin.Reads as wire_begin_reads
use Rattle.link.proofs.wires.dock_wire_listen.Reads as wire_listen_reads
use Rattle.link.proofs.queues.dock_queue_begin.Reads as queue_begin_reads
use Rattle.link.proofs.queues.dock_queue_put.Reads as queue_put_reads
use Rattle.link.proofs.queues.dock_queue_take.Reads as queue_take_reads
use Rattle.link.proofs.held.dock_held_byte.Reads as held_byte_reads
use Rattle.link.proofs.lists.dock_chassis_step.Reads as chassis_step_reads

pub version_determined : (r s : ℕ) → version_reads.Post tt tt r tt → version_reads.Post tt tt s tt → r ≡ s
version_determined r s p q = p ∙ sym q

pub unpack_determined : (w r s : ℕ) → unpack_reads.Post tt (w, tt) r (w, tt) → unpack_reads.Post tt (w, tt) s (w, tt) → r ≡ s
unpack_determined w r s p q = p ∙ sym q

pub pack_determined :
    (k a b r s : ℕ) → pack_reads.Post tt (k, (a, (b, tt))) r (k, (a, (b, tt))) → pack_reads.Post tt (k, (a, (b, tt))) s (k, (a, (b, tt))) → r ≡ s
pack_determined k a b r s p q = p ∙ sym q

pub replay_determined :
    (κs : _) (words : Bor (List ℕ)) (records : MutBor (List ℕ)) (r s : ℕ) (left left' : MutBor (List ℕ))
    → replay_reads.Post κs (words, (records, tt)) r (words, (left, tt)) → replay_reads.Post κs (words, (records, tt)) s (words, (left', tt))
    → (r ≡ s) × (left.now ≡ left'.now)
replay_determined κs words records r s left left' p q = (p.0 ∙ sym q.0, p.1 ∙ sym q.1)

pub begin_determined :
    (κs : _) (state : MutBor (List ℕ)) (r s : ℕ) (left left' : MutBor (List ℕ))
    → begin_reads.Post κs (state, tt) r (left, tt) → begin_reads.Post κs (state, tt) s (left', tt)
    → (r ≡ s) × (left.now ≡ left'.now)
begin_determined κs state r s left left' p q = (p.0 ∙ sym q.0, p.1 ∙ sym q.1)

pub step_determined :
    (κs : _) (state : MutBor (List ℕ)) (w r s : ℕ) (left left' : MutBor (List ℕ))
    → step_reads.Post κs (state, (w, tt)) r (left, (w, tt)) → step_reads.Post κs (state, (w, tt)) s (left', (w, tt))
    → (r ≡ s) × (left.now ≡ left'.now)
step_determined κs state w r s left left' p q = (p.0 ∙ sym q.0, p.1 ∙ sym q.1)

pub batch_determined :
    (κs : _) (state : MutBor (List ℕ)) (words : Bor (List ℕ)) (records : MutBor (List ℕ)) (r s : ℕ) (left left' written written' : MutBor (List ℕ))
    → batch_reads.Post κs (state, (words, (records, tt))) r (left, (words, (written, tt)))
    → batch_reads.Post κs (state, (words, (records, tt))) s (left', (words, (written', tt)))
    → (r ≡ s) × (left.now ≡ left'.now) × (written.now ≡ written'.now)
batch_determined κs state words records r s left left' written written' p q =
    (p.0 ∙ sym q.0, p.1.0 ∙ sym q.1.0, p.1.1 ∙ sym q.1.1)

pub name_determined :
    (κs : _) (state : MutBor (List ℕ)) (n r s : ℕ) (left left' : MutBor (List ℕ))
    → name_reads.Post κs (state, (n, tt)) r (left, (n, tt)) → name_reads.Post κs (state, (n, tt)) s (left', (n, tt))
    → (r ≡ s) × (left.now ≡ left'.now)
name_determined κs state n r s left left' p q = (p.0 ∙ sym q.0, p.1 ∙ sym q.1)

pub reading_determined :
    (κs : _) (state : Bor (List ℕ)) (a r s : ℕ)
    → reading_reads.Post κs (state, (a, tt)) r (state, (a, tt)) → reading_reads.Post κs (state, (a, tt)) s (state, (a, tt)) → r ≡ s
reading_determined κs state a r s p q = p ∙ sym q

pub outputs_determined :
    (κs : _) (state : Bor (List ℕ)) (r s : ℕ) → outputs_reads.Post κs (state, tt) r (state, tt) → outputs_reads.Post κs (state, tt) s (state, tt) → r ≡ s
outputs_determined κs state r s p q = p ∙ sym q

pub held_byte_determined :
    (κs : _) (state : Bor (List ℕ)) (r s : ℕ) → held_byte_reads.Post κs (state, tt) r (state, tt) → held_byte_reads.Post κs (state, tt) s (state, tt) → r ≡ s
held_byte_determined κs state r s p q = p ∙ sym q

pub wire_begin_determined :
    (κs : _) (held : MutBor (List ℕ)) (r s : ℕ) (left left' : MutBor (List ℕ))
    → wire_begin_reads.Post κs (held, tt) r (left, tt) → wire_begin_reads.Post κs (held, tt) s (left', tt)
    → (r ≡ s) × (left.now ≡ left'.now)
wire_begin_determined κs held r s left left' p q = (p.0 ∙ sym q.0, p.1 ∙ sym q.1)

pub wire_listen_determined :
    (κs : _) (held : MutBor (List ℕ)) (samples : Bor (List ℕ)) (words : MutBor (List ℕ)) (r s : ℕ) (left left' written written' : MutBor (List ℕ))
    → wire_listen_reads.Post κs (held, (samples, (words, tt))) r (left, (samples, (written, tt)))
    → wire_listen_reads.Post κs (held, (samples, (words, tt))) s (left', (samples, (written', tt)))
    → (r ≡ s) × (left.now ≡ left'.now) × (written.now ≡ written'.now)
wire_listen_determined κs held samples words r s left left' written written' p q =
    (p.0 ∙ sym q.0, p.1.0 ∙ sym q.1.0, p.1.1 ∙ sym q.1.1)

pub queue_begin_determined :
    (κs : _) (queue : MutBor (List ℕ)) (r s : ℕ) (left left' : MutBor (List ℕ))
    → queue_begin_reads.Post κs (queue, tt) r (left, tt) → queue_begin_reads.Post κs (queue, tt) s (left', tt)
    → (r ≡ s) × (left.now ≡ left'.now)
queue_begin_determined κs queue r s left left' p q = (p.0 ∙ sym q.0, p.1 ∙ sym q.1)

pub queue_put_determined :
    (κs : _) (queue : MutBor (List ℕ)) (w r s : ℕ) (left left' : MutBor (List ℕ))
    → queue_put_reads.Post κs (queue, (w, tt)) r (left, (w, tt)) → queue_put_reads.Post κs (queue, (w, tt)) s (left', (w, tt))
    → (r ≡ s) × (left.now ≡ left'.now)
queue_put_determined κs queue w r s left left' p q = (p.0 ∙ sym q.0, p.1 ∙ sym q.1)

pub queue_take_determined :
    (κs : _) (queue : MutBor (List ℕ)) (r s : ℕ) (left left' : MutBor (List ℕ))
    → queue_take_reads.Post κs (queue, tt) r (left, tt) → queue_take_reads.Post κs (queue, tt) s (left', tt)
    → (r ≡ s) × (left.now ≡ left'.now)
queue_take_determined κs queue r s left left' p q = (p.0 ∙ sym q.0, p.1 ∙ sym q.1)

pub chassis_step_determined :
    (κs : _) (states : MutBor (List ℕ)) (n w r s : ℕ) (left left' : MutBor (List ℕ))
    → chassis_step_reads.Post κs (states, (n, (w, tt))) r (left, (n, (w, tt))) → chassis_step_reads.Post κs (states, (n, (w, tt))) s (left', (n, (w, tt)))
    → (r ≡ s) × (left.now ≡ left'.now)
chassis_step_determined κs states n w r s left left' p q = (p.0 ∙ sym q.0, p.1 ∙ sym q.1)
