-- What keeps a state of a world on a disk may go to another thread.
pub use Rattle.lms_file_store.proofs.Sent.{store_is_sent}
