pub mod ItemLists
