-- Threads may share an open lease, and a worker may go to another thread.
use denote.Param.Send.{IsSend, IsSync, sendable, recorded_send, recorded_sync, view_send, view_sync, struct_send}
use denote.Ref.{NamedLft}
use denote.Builtin.{u8}
use denote.Struct.Struct.{Struct}
use denote.Struct.Declared.{shape}
use Rattle.std.proofs.Crossing.{crosses, Vec-send}
use Rattle.lms_hss.proofs.Sent.{key_is_sent, forest_is_shared}
use Rattle.lms_pool.proofs.Sent.{pool_is_shared, seat_is_sent}
use Rattle.lms_batch.specs.contracts.job.Job as job
use Rattle.lms_batch.specs.contracts.receipt.Receipt as receipt
use Rattle.lms_batch.specs.contracts.receipt.Receipt.TheInside as receipt_inside
use Rattle.lms_batch.specs.contracts.open_lease.OpenLease as lease
use Rattle.lms_batch.specs.contracts.open_lease.OpenLease.TheInside as inside
use Rattle.lms_batch.specs.contracts.worker.Worker as worker

job_is_shared : IsSync job.the_row
job_is_shared = search (sendable, crosses) depth 20

pub lease_is_shared : IsSync lease.the_row
lease_is_shared =
    let fields : IsSync (Struct (shape inside.the_type)) =
    search (forest_is_shared, pool_is_shared, sendable) depth 20 in
    view_sync inside.the_row _ _ _ _
    (recorded_sync (Struct (shape inside.the_type)) inside.the_type.D inside.the_type.to inside.the_type.to_one fields)

receipt_is_sent : (κ : NamedLft) → IsSend (receipt.the_row κ)
receipt_is_sent κ =
    let fields : IsSend (Struct (shape (receipt_inside.the_type κ))) = struct_send (shape (receipt_inside.the_type κ)) (
      key_is_sent,
      (
        search sendable depth 20,
        (
          search sendable depth 20,
          (search (job_is_shared, sendable) depth 20, (Vec-send u8 (search sendable depth 20), tt)),
        ),
      ),
    ) in
    view_send (receipt_inside.the_row κ) _ _ _ _ (recorded_send (Struct (shape (receipt_inside.the_type κ)))
    (receipt_inside.the_type κ).D (receipt_inside.the_type κ).to (receipt_inside.the_type κ).to_one fields)

pub worker_is_sent : (κ : NamedLft) → IsSend (worker.the_row κ)
worker_is_sent κ = search (lease_is_shared, job_is_shared, receipt_is_sent, seat_is_sent, sendable, crosses) depth 20
