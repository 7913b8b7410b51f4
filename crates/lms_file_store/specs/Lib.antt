pub mod FileStores
